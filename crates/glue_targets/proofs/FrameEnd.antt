-- What the frame's end on Deno holds and publishes, and where it fits, for any modules that it hands on, with string constants
-- and without them.
use Rattle.std.proofs.Common.{◌≡◌, ℕ, ◌+◌, ◌<◌, length, drop, Bool, List, [], ◌∷◌, ◌++◌, inl, inr, refl, true, false, true≢false}
use Rattle.std.proofs.Common.{ap, sym, subst, ◌∙◌, append_assoc, arith}
use Rattle.std.proofs.lemmas.Bool.{or_parts}
use Rattle.std.proofs.lemmas.List.{at_drop_more}
use Rattle.std.proofs.lemmas.List.Folds.{list_all-append}
use Rattle.std.proofs.lemmas.Fmt.{decimal_digit}
use Rattle.std.specs.Prelude.{◌&&◌, codes, get_or, take, Some, None}
use Rattle.std.specs.List.{list_all, list_any}
use Rattle.std.specs.Str.{bytes_eq}
use Rattle.values.specs.Lists.{IsAway, AreApart}
use Rattle.glue_words.specs.declared.word.Word.{Word}
use Rattle.glue_words.specs.declared.word.Word.TheVariants as w
use Rattle.glue_words.specs.declared.punct.TheConstants as punct
use Rattle.glue_words.specs.declared.item.Role.TheVariants as role
use Rattle.glue_words.specs.Facts.{Facts, Levels, Last, Below, facts, joined}
use Rattle.glue_words.specs.Ident.{is_ident}
use Rattle.glue_words.specs.Limits.{is_prop}
use Rattle.glue_words.specs.Linking.{AreAmong}
use Rattle.glue_words.specs.Names.{bound_in, used_in, hosted_in}
use Rattle.glue_words.specs.Spacing.{joins}
use Rattle.glue_words.specs.Tables.{punct_text}
use Rattle.glue_words.specs.Words.{line_feed}
use Rattle.glue_words.proofs.Among.{apart_joined, apart_swap}
use Rattle.glue_words.proofs.Belonging.{Context}
use Rattle.glue_words.proofs.Fitting.{Fits}
use Rattle.glue_words.proofs.Idents.{ascii_ident, ascii_prop}
use Rattle.glue_words.proofs.Joined.{joined_are}
use Rattle.glue_marked.specs.Reads.{words_in}
use Rattle.glue_marked.proofs.Reading.{reading}
use Rattle.glue_marked.proofs.ShippedFacts.{apart_by_test}
use Rattle.glue_targets.specs.declared.deno.TheConstants as deno
use Rattle.glue_targets.specs.Published.{is_exported, published_by, fixed_of, fixed_by}
use Rattle.glue_targets.specs.Targets.{module_name, module_words, modules_words, own_path, string_constants, frame_end}

-- ---- the names of modules

-- the names of modules, numbered from this number on
abbrev pub module_names : ℕ → List (List ℕ) → List (List ℕ)
module_names number [] = []
module_names number (path ∷ paths) = module_name number ∷ module_names (number + 1) paths

-- the module of the frame's members has the name that the frame declares
pub own_name : module_name 0 ≡ codes "import0"
own_name = ap (λ ds. codes "import" ++ ds) (decimal_digit 0 (omega arith))

-- the first of the modules that are left, and the others
pub modules_next : (modules : List (List ℕ)) (place number : ℕ) (path : List ℕ) → place < length modules → path ≡ get_or modules place path
    → modules_words number (drop place modules) ≡ module_words number path ++ modules_words (number + 1) (drop (place + 1) modules)
modules_next modules place number path within here =
    at_drop_more (modules_words number) modules place path within
    ∙ ap (λ (p : List ℕ). module_words number p ++ modules_words (number + 1) (drop (place + 1) modules)) (sym here)

-- a text begins as the name of a module
abbrev pub begins_so : List ℕ → Bool
begins_so name = bytes_eq (take 6 name) (codes "import")

not_there : (names : List (List ℕ)) (name : List ℕ) → list_any begins_so names ≡ false → begins_so name ≡ true
    → IsAway name names
not_there [] name none h at = at
not_there (other ∷ names) name none h (inl same) =
    true≢false (sym h ∙ ap begins_so same ∙ (or_parts (begins_so other) (list_any begins_so names) none).0)
not_there (other ∷ names) name none h (inr at) =
    not_there names name (or_parts (begins_so other) (list_any begins_so names) none).1 h at

-- names that begin otherwise are none of modules
pub modules_apart : (names : List (List ℕ)) → list_any begins_so names ≡ false → (number : ℕ) (paths : List (List ℕ))
    → AreApart (module_names number paths) names
modules_apart names none number [] = tt
modules_apart names none number (path ∷ paths) =
    (not_there names (module_name number) none refl, modules_apart names none (number + 1) paths)

-- ---- the names of the frame's end that stand in the line of string constants

-- the host's names that it uses
abbrev pub end_hosts : Bool → List (List ℕ)
end_hosts true = codes "Proxy" ∷ []
end_hosts false = []

-- the local names that it declares, and those that it uses
abbrev end_parameters : Bool → List (List ℕ)
end_parameters true = codes "_" ∷ codes "name" ∷ []
end_parameters false = []

abbrev end_locals : Bool → List (List ℕ)
end_locals true = codes "name" ∷ []
end_locals false = []

-- the names of properties
abbrev end_props : Bool → List (List ℕ)
end_props true = codes "get" ∷ []
end_props false = []

names_idents : (strings : Bool) → list_all is_ident (end_hosts strings ++ end_parameters strings) ≡ true
names_idents false = refl
names_idents true =
    rw (
      ascii_ident (codes "Proxy") refl,
      ascii_ident (codes "_") refl,
      ascii_ident (codes "name") refl,
    ) refl

props_stand : (strings : Bool) → list_all is_prop (codes "__proto__" ∷ end_props strings) ≡ true
props_stand false = rw (ascii_prop (codes "__proto__") refl) refl
props_stand true = rw (ascii_prop (codes "__proto__") refl, ascii_prop (codes "get") refl) refl

locals_among : (strings : Bool) → AreAmong (end_locals strings) (end_parameters strings)
locals_among false = tt
locals_among true = (inr (inl refl), tt)

-- the local names are no other name that the frame's end uses
locals_apart : (strings : Bool) (paths : List (List ℕ))
    → AreApart (end_parameters strings) (module_names 0 paths ++ end_hosts strings)
locals_apart false paths = tt
locals_apart true paths =
    let names = end_parameters true in
    apart_joined names (module_names 0 paths) (end_hosts true)
    (apart_swap (module_names 0 paths) names (modules_apart names refl 0 paths)) (apart_by_test names (end_hosts true) refl)

-- ---- facts

-- facts of words that use these names later, hold these properties, and have the line of string constants or not
abbrev noted : (strings : Bool) (used props : List (List ℕ)) → Levels → (first last : Word) → Facts
noted strings used props levels first last = record {
  binds = [];
  uses = used;
  uses_now = [];
  hosts = end_hosts strings;
  hosts_now = [];
  local_binds = end_parameters strings;
  locals = end_locals strings;
  takes = [];
  keys = [];
  outers = [];
  props = props;
  opened = [];
  gated = [];
  order = [];
  hoisted = [];
  lead = [];
  trail = Some false;
  levels = levels;
  arrowed = strings;
  proper = true;
  spaced = true;
  exported = false;
  turn = None;
  outside = true;
  inside = true;
  ends = Some (first, last);
}

-- the module of a number
abbrev one_facts : ℕ → List ℕ → Facts
one_facts number path = noted false (module_name number ∷ []) [] (Last (module_name number ∷ []) 0) (w.Text path) line_feed

module_are : (number : ℕ) (path : List ℕ) → facts (module_words number path) ≡ one_facts number path
unfolding reading joins punct_text
module_are number path = refl

-- what stands behind modules
abbrev rest_words : Bool → List Word
rest_words strings = string_constants strings ++ words_in deno.FRAME_END.now

-- the first word of modules, and of what stands behind them
abbrev behind : List (List ℕ) → Bool → Word
behind (path ∷ paths) strings = w.Text path
behind [] true = w.Text (codes "wasm:js/string-constants")
behind [] false = w.Punct punct.CLOSE_BRACE

abbrev rest_facts : Bool → ℕ → List (List ℕ) → Facts
rest_facts strings number paths =
    noted strings (module_names number paths) (end_props strings) (Below (module_names number paths) (Below [] (Last [] 0)))
    (behind paths strings) line_feed

rest_joined : (strings : Bool) (number : ℕ) (path : List ℕ) (paths : List (List ℕ))
    → joined (one_facts number path) (rest_facts strings (number + 1) paths) ≡ rest_facts strings number (path ∷ paths)
unfolding joins punct_text
rest_joined strings number path (next ∷ paths) = refl
rest_joined true number path [] = refl
rest_joined false number path [] = refl

-- modules, and what stands behind them
rest_are : (strings : Bool) (number : ℕ) (paths : List (List ℕ))
    → facts (modules_words number paths ++ rest_words strings) ≡ rest_facts strings number paths
unfolding reading joins punct_text
rest_are strings number (path ∷ paths) =
    ap facts (append_assoc (module_words number path) (modules_words (number + 1) paths) (rest_words strings))
    ∙ joined_are (module_words number path) (modules_words (number + 1) paths ++ rest_words strings) _ _
    (module_are number path) (rest_are strings (number + 1) paths)
    ∙ rest_joined strings number path paths
rest_are true number [] = refl
rest_are false number [] = refl

front_are : facts (words_in deno.FRAME_MODULES.now)
    ≡ noted false [] (codes "__proto__" ∷ []) (Below [] (Last [] 1)) (w.Punct punct.CLOSE_BRACE) line_feed
unfolding reading joins punct_text
front_are = refl

-- the names that the frame's end uses: that of the module of its members, and those of the others
abbrev pub end_names : List ℕ → List (List ℕ) → List (List ℕ)
end_names stem modules = module_names 0 (own_path stem ∷ modules)

module _ (stem : List ℕ) (modules : List (List ℕ)) (strings : Bool) where
  abbrev words : List Word
  words = (frame_end stem modules strings).words

  abbrev names : List (List ℕ)
  names = end_names stem modules

  end_are : facts words
      ≡ noted strings names (codes "__proto__" ∷ end_props strings) (Below [] (Below [] (Last [] 0)))
      (w.Punct punct.CLOSE_BRACE) line_feed
  unfolding joins punct_text
  end_are =
      joined_are (words_in deno.FRAME_MODULES.now) (modules_words 0 (own_path stem ∷ modules) ++ rest_words strings) _ _
      front_are (rest_are strings 0 (own_path stem ∷ modules))

  pub end_bound : bound_in words ≡ []
  end_bound = ap (λ (f : Facts). f.binds) end_are

  pub end_used : used_in words ≡ names
  end_used = ap (λ (f : Facts). f.uses) end_are

  pub end_hosted : hosted_in words ≡ end_hosts strings
  end_hosted = ap (λ (f : Facts). f.hosts) end_are

  -- it publishes nothing
  pub end_exported : is_exported (frame_end stem modules strings) ≡ false
  end_exported = ap (λ (f : Facts). f.exported) end_are

  pub end_publishes : published_by (frame_end stem modules strings) ≡ []
  end_publishes = refl

  pub end_fixed : fixed_by (frame_end stem modules strings) ≡ []
  end_fixed = ap (λ b. fixed_of role.Fixed b words) end_exported

  -- it fits where the modules are declared, and the host's names known
  pub end_fits : (c : Context) → list_all is_ident names ≡ true → AreAmong names c.declared
      → AreAmong (end_hosts strings) c.hosts → Fits c (facts words)
  end_fits c idents declared hosts =
      subst (Fits c) (sym end_are) (record {
        alone = refl;
        idents =
            list_all-append is_ident names (end_hosts strings ++ end_parameters strings)
            ∙ ap (λ (b : Bool). b && list_all is_ident (end_hosts strings ++ end_parameters strings)) idents
            ∙ names_idents strings;
        props = props_stand strings;
        resolved = declared;
        known = hosts;
        local = locals_among strings;
        apart = locals_apart strings (own_path stem ∷ modules);
        taken = tt;
        described = tt;
        formed = refl;
        opened = tt;
        gated = tt;
      })
