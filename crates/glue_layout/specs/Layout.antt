-- The layout of lines by the brackets that stand open before them.
use Rattle.std.specs.Prelude.{ℕ, ◌+◌, ◌-◌, ◌*◌, ◌==◌, ◌&&◌, ◌||◌, not, List, [], ◌∷◌, ◌++◌, length, map, replicate, slice_index, if◌then◌else◌}
use Rattle.std.specs.Str.{trim}
use Rattle.std.specs.Str.Lines.{lines}

-- the trimmed lines of the trimmed text
abbrev pub trimmed_lines : List ℕ → List (List ℕ)
trimmed_lines text = map trim (lines (trim text))

-- the level at which a line stands: one less if it begins with `}`
unfoldable pub level_at : ℕ → List ℕ → ℕ
level_at level line = if slice_index line 0 == 125 then level - 1 else level

-- the level of the next line: one more if it ends with `{` and doesn't begin with `*`
unfoldable pub level_after : ℕ → List ℕ → ℕ
level_after level line =
    if slice_index line (length line - 1) == 123 && not (slice_index line 0 == 42) then level_at level line + 1 else level_at level line

-- the number of spaces before a line: four a level, one more before `*`, four more before `:` and `?`, none if it is empty
unfoldable pub columns : ℕ → List ℕ → ℕ
columns level [] = 0
columns level (b ∷ bs) =
    if b == 42 then 4 * level + 1 else if b == 58 || b == 63 then 4 * (level + 1) else 4 * level_at level (b ∷ bs)

-- a line with the spaces before it and the line feed after it
unfoldable pub laid_line : ℕ → List ℕ → List ℕ
laid_line level line = replicate (columns level line) 32 ++ (line ++ 10 ∷ [])

-- lines one after another, the first at a level
abbrev pub laid_lines : ℕ → List (List ℕ) → List ℕ
laid_lines level [] = []
laid_lines level (line ∷ more) = laid_line level line ++ laid_lines (level_after level line) more

-- the layout of a text
abbrev pub indented : List ℕ → List ℕ
indented text = laid_lines 0 (trimmed_lines text)
