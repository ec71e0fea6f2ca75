-- Symbols, and the paths that they show.
use Rattle.std.specs.Prelude.{ℕ, zero, suc, nat_lt, nat_eq, Bool, false, ◌||◌, List, [], ◌∷◌, ◌++◌, length, take, drop, Option, Some, None, option_map, codes, if◌then◌else◌}
use Rattle.std.specs.List.{list_all, prefix_len}
use Rattle.std.specs.Option.{option_and_then, option_or}
use Rattle.std.specs.Str.{bytes_eq}
use Rattle.std.specs.Char.{is_ascii, is_ascii_digit}
use Rattle.std.specs.Int.{is_in_range}
use Rattle.demangle_core.specs.Reading.{is_digit_of, number, behind}
use Rattle.demangle_core.specs.Shown.{shown_part}

-- ---- what LLVM appends

-- a digit, `A` to `F`, or `@`
abbrev pub is_llvm_byte : ℕ → Bool
is_llvm_byte b = is_ascii_digit b || (is_in_range 65 70 b || nat_eq b 64)

-- something stands behind, and each of its bytes is such a byte
abbrev pub are_llvm_bytes : Option (List ℕ) → Bool
are_llvm_bytes None = false
are_llvm_bytes (Some bytes) = list_all is_llvm_byte bytes

-- `.llvm.`, and nothing but such bytes behind it
abbrev pub is_llvm_suffix : List ℕ → Bool
is_llvm_suffix bytes = are_llvm_bytes (behind (codes ".llvm.") bytes)

-- a name without such an end
abbrev pub without_llvm : List ℕ → List ℕ
without_llvm [] = []
without_llvm (b ∷ bytes) = if is_llvm_suffix (b ∷ bytes) then [] else b ∷ without_llvm bytes

-- ---- the parts

-- bytes in two, the first of this length, where there are so many
abbrev pub split_at : ℕ → List ℕ → Option (List ℕ × List ℕ)
split_at n bytes = if nat_lt (length bytes) n then None else Some (take n bytes, drop n bytes)

-- the part at the front, behind so many digits of its length, and what stands behind it
abbrev pub counted_part : ℕ → List ℕ → Option (List ℕ × List ℕ)
counted_part count bytes = if nat_eq count 0 then None else split_at (number 10 (take count bytes)) (drop count bytes)

-- the part at the front, and what stands behind it
abbrev pub first_part : List ℕ → Option (List ℕ × List ℕ)
first_part bytes = counted_part (prefix_len (is_digit_of false) bytes) bytes

-- what a part shows and what stands behind it, where `E` ends it or it shows something by these means
abbrev pub path_behind : (List ℕ → Option (List ℕ)) → Option (List ℕ × List ℕ) → Option (List ℕ)
path_behind later None = None
path_behind later (Some found) =
    if bytes_eq found.1 (codes "E") then Some (shown_part found.0)
    else option_map (λ path. shown_part found.0 ++ (codes "::" ++ path)) (later found.1)

-- What so many parts at most show, up to an `E` with nothing behind it; none where the bytes are something else. Each part takes a
-- byte at least, so as many as there are bytes are enough.
abbrev pub path_of : ℕ → List ℕ → Option (List ℕ)
path_of zero bytes = None
path_of (suc most) bytes = path_behind (path_of most) (first_part bytes)

-- ---- symbols

-- what stands inside of a symbol, behind its beginning
abbrev pub inside : List ℕ → Option (List ℕ)
inside name = option_or (behind (codes "_ZN") name) (option_or (behind (codes "ZN") name) (behind (codes "__ZN") name))

-- what a name shows that is a symbol without LLVM's end
abbrev pub path_in : List ℕ → Option (List ℕ)
path_in name = if list_all is_ascii name then option_and_then (λ parts. path_of (length parts) parts) (inside name) else None

-- what a symbol shows; none where the name is no symbol
abbrev pub demangled : List ℕ → Option (List ℕ)
demangled name = path_in (without_llvm name)
