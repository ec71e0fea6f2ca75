-- The keys of helpers and the names that they bind.
use Rattle.std.specs.Prelude.{◌≡◌, ◌≢◌, ℕ, ◌-◌, ◌<◌, ◌^◌, nat_lt, cond, Bool, false, not, List, [], ◌∷◌, ◌++◌, Option, Some, None, map, slice_index_or}
use Rattle.std.specs.Char.{is_ascii_digit}
use Rattle.std.specs.Fmt.{decimal}
use Rattle.helper_table.specs.declared.kinds.TheConstants.{SINGLES, SINGLE_KEYS, SINGLE_NAMES, DECODER, FAMILIES, FAMILY_BINDS, FAMILY_NAMES}

-- a name followed by the place of a memory or a table, where there is one
abbrev pub printed : List ℕ → Option ℕ → List ℕ
printed stem None = stem
printed stem (Some place) = stem ++ decimal place

-- the name isn't empty, and its last character is no digit
abbrev pub is_stem : List ℕ → Bool
is_stem [] = false
is_stem (c ∷ []) = not (is_ascii_digit c)
is_stem (c ∷ d ∷ cs) = is_stem (d ∷ cs)

-- the keys of helpers that go by no memory and no table, and their names
abbrev pub single_keys : List (List ℕ)
single_keys = map (λ t. t.now) SINGLE_KEYS

abbrev pub single_names : List (List ℕ)
single_names = map (λ t. t.now) SINGLE_NAMES

-- the names of helpers that go by a memory or a table, without its place
abbrev pub family_names : List (List ℕ)
family_names = map (λ t. t.now) FAMILY_NAMES

-- the helper whose name stands at a place of a list of names
abbrev pub single_owner : ℕ → ℕ
single_owner place = cond (nat_lt place SINGLES) place DECODER

abbrev pub family_owner : ℕ → ℕ
family_owner place = cond (nat_lt place FAMILIES) place (place - FAMILIES)

-- what stands at a place of these lists
abbrev pub single_key_at : ℕ → List ℕ
single_key_at place = slice_index_or single_keys place []

abbrev pub single_name : ℕ → List ℕ
single_name place = slice_index_or single_names place []

abbrev pub family_stem_at : ℕ → List ℕ
family_stem_at place = slice_index_or family_names place []

-- a name there, with the place of a memory or a table
abbrev pub family_name : ℕ → ℕ → List ℕ
family_name place number = printed (family_stem_at place) (Some number)

-- ---- what reading finds

-- the text is none of so many texts; it is the one at a place
abbrev pub IsNoText : ℕ → List (List ℕ) → List ℕ → Type 0
IsNoText many texts text = (p : ℕ) → p < many → text ≢ slice_index_or texts p []

abbrev pub IsTextAt : ℕ → List (List ℕ) → List ℕ → ℕ → Type 0
IsTextAt many texts text p = (p < many) × (text ≡ slice_index_or texts p [])

-- the name is not the stem with a place; it is that with this place
abbrev pub IsUnnumbered : List ℕ → List ℕ → Type 0
IsUnnumbered stem name = (n : ℕ) → n < 2 ^ 32 → name ≢ printed stem (Some n)

abbrev pub IsNumbered : List ℕ → List ℕ → ℕ → Type 0
IsNumbered stem name n = (n < 2 ^ 32) × (name ≡ printed stem (Some n))

-- the name is none with a place; it is this one with this place
abbrev pub IsUnplaced : List ℕ → Type 0
IsUnplaced name = (p n : ℕ) → p < FAMILY_BINDS → n < 2 ^ 32 → name ≢ family_name p n

abbrev pub IsPlaced : List ℕ → (ℕ × ℕ) → Type 0
IsPlaced name found = (found.0 < FAMILY_BINDS) × (found.1 < 2 ^ 32) × (name ≡ family_name found.0 found.1)
