-- Lists: what tests say of their members, items with their counterparts, and the items of a description.
use Rattle.glue_context.proofs.Common.{Bor, map, take, ◌≡◌, ◌+◌, ◌-◌, ◌<◌, suc, true, codes, list_all, default_names, inl, inr, List, [], ◌∷◌, ◌++◌, Bool, refl, ap, arith, AllZip, Ordering, flat_map, flat_map-append, common_steps, ℕ, IsIn, Item, EachItem, AllItems, AreFunctionItems, IsArranged, IsDefineItem, IsGlue, all_items, front_items, joined_groups, length, AreImportLines, NameMap, line_form, vendor_items, drawn_imports, Settings, ImportId, AuxExport, Lowered, Frame, frame_of, frame_start, frame_end, own_imports, loading_item, foreign_modules, foreign_lines, module_at, modules_from, Import, Imported, Option, in_left, in_right, subst, sym, ◌∙◌}
use Rattle.std.specs.Fmt.{decimal}
use Rattle.std.proofs.Common.{append_assoc, drop, get_or}
use Rattle.std.proofs.lemmas.List.{map-append, at_drop_more, take_more}
use Rattle.std.proofs.lemmas.List.Folds.{list_all-map}
use Rattle.std.proofs.lemmas.List.Sums.{AllPass-from_list_all, list_all-from_AllPass}
use Rattle.std.proofs.lemmas.Slice.Zip.{all_zipped_more}
use Rattle.std.specs.Prelude.{◌⊎◌, filter}
use Rattle.helper_table.specs.declared.parts.HelperParts.{HelperParts}
use Rattle.helper_table.specs.Closed.{AreAsked}
use Rattle.glue_naming.specs.Pairs.{own_pairs, pair_order, place_order}
use Rattle.glue_lines.specs.Lines.{foreign_line}
use Rattle.glue_lines.specs.declared.form.LineForm.TheVariants.{Es}
use Rattle.glue_context.specs.DefinedItems.{takes_memory}
use Rattle.glue_context.specs.Edits.{has_start}
use Rattle.glue_context.specs.Foreign.{has_strings}
use Rattle.glue_context.specs.Items.{AreGroups, front_groups}
use Rattle.glue_context.specs.Parts.{are_few, helper_parts}
use Rattle.glue_exports.specs.Tree.{has_none}
use Rattle.glue_exports.proofs.Joined.{from_filter}
use Rattle.glue_public.specs.Described.{FunctionItems}
use Rattle.glue_public.proofs.TreeFacts.{HasItems}
pub use Rattle.glue_naming.proofs.Arranged.{all_are, each_is, moved_from, arranged_from, distinct_moved, arranged_by_sort}

-- for the loops that make items
pub ruleset item_steps = (common_steps, map-append, all_zipped_more, list_all-map)

-- one more function, and its items
pub declared_next : (R : AuxExport → FunctionItems → Type 0) (xs : List (Bor AuxExport)) (groups : List FunctionItems) (i : ℕ) (x : Bor AuxExport) (group : FunctionItems)
    → i < length xs → x ≡ get_or xs i x → AllZip R (map (λ (e : Bor AuxExport). e.now) (take i xs)) groups → R x.now group
    → AllZip R (map (λ (e : Bor AuxExport). e.now) (take (i + 1) xs)) (groups ++ group ∷ [])
declared_next R xs groups i x group less is zipped one =
    let now = λ (e : Bor AuxExport). e.now in
    let grown : map now (take (i + 1) xs) ≡ map now (take i xs) ++ x.now ∷ [] =
    ap (map now) (take_more xs i x less ∙ ap (λ y. take i xs ++ y ∷ []) (sym is)) ∙ map-append now (take i xs) (x ∷ []) in
    subst (λ (ys : List AuxExport). AllZip R ys (groups ++ group ∷ [])) (sym grown) (all_zipped_more R (map now (take i xs)) groups x.now group zipped one)

-- functions that are declared have items
pub have_items : (s : Settings) (m : NameMap) (l : Lowered) (lone : List AuxExport) (functions : List FunctionItems)
    → AllZip (AreFunctionItems s m l) lone functions → AllZip HasItems lone functions
have_items s m l [] [] h = tt
have_items s m l (e ∷ lone) (f ∷ functions) h = (ap (λ (x : FunctionItems). has_none x.1) (h.0).are, have_items s m l lone functions h.1)
have_items s m l lone functions h = absurd h

-- one more numbered name
pub default_next : (count n : ℕ) → n < count → default_names (count - n) n ≡ (codes "arg" ++ decimal n) ∷ default_names (count - (n + 1)) (n + 1)
default_next count n more = let less : count - n ≡ suc (count - (n + 1)) = omega arith in ap (λ (k : ℕ). default_names k n) less

pub ruleset name_steps = (common_steps, default_next)

-- ---- the first of what is left, and the rest

-- of imports, with their modules
pub modules_next : (own : List ℕ) (paths : List (Option (List ℕ))) (place : ℕ) (o : Option (List ℕ)) → place < length paths → o ≡ get_or paths place o
    → modules_from own place (drop place paths) ≡ module_at own place o ++ modules_from own (place + 1) (drop (place + 1) paths)
modules_next own paths place o within here =
    at_drop_more (modules_from own place) paths place o within
    ∙ ap (λ (x : Option (List ℕ)). module_at own place x ++ modules_from own (place + 1) (drop (place + 1) paths)) (sym here)

-- of modules, with their lines
pub lines_next : (modules : List (List ℕ)) (place number : ℕ) (path : List ℕ) → place < length modules → path ≡ get_or modules place path
    → foreign_lines number (drop place modules) ≡ foreign_line Es number path ∷ foreign_lines (number + 1) (drop (place + 1) modules)
lines_next modules place number path within here =
    at_drop_more (foreign_lines number) modules place path within
    ∙ ap (λ (p : List ℕ). foreign_line Es number p ∷ foreign_lines (number + 1) (drop (place + 1) modules)) (sym here)

-- ---- tests of each item

module _ {A : Type 0} (test : A → Bool) where
  pub all_by : (xs : List A) → ((x : A) → IsIn x xs → test x ≡ true) → list_all test xs ≡ true
  all_by xs h = list_all-from_AllPass test xs (all_are (λ x. test x ≡ true) xs h)

  -- what each item passes, each passes in another order
  pub all_moved : {order : A → A → Ordering} (xs ys : List A) → IsArranged order xs ys → list_all test xs ≡ true → list_all test ys ≡ true
  all_moved xs ys a h = all_by ys (λ y k. each_is (λ x. test x ≡ true) xs (AllPass-from_list_all test xs h) y (arranged_from a y k))

  -- and what all pass, those of them pass that pass another test
  pub all_filtered : (other : A → Bool) (xs : List A) → list_all test xs ≡ true → list_all test (filter other xs) ≡ true
  all_filtered other xs h =
      all_by (filter other xs) (λ x k. each_is (λ x. test x ≡ true) xs (AllPass-from_list_all test xs h) x (from_filter other x xs k).0)

pub flat_none : {A B : Type 0} (xs : List A) → flat_map {X = A} {A = B} (λ x. []) xs ≡ []
flat_none [] = refl
flat_none (x ∷ xs) = flat_none xs

-- ---- facts of items

pub all_joined : (P : Item → Type 0) (xs ys : List Item) → AllItems P xs → AllItems P ys → AllItems P (xs ++ ys)
all_joined P [] ys h k = k
all_joined P (x ∷ xs) ys h k = (h.0, all_joined P xs ys h.1 k)

all_parts : (P : Item → Type 0) (xs ys : List Item) → AllItems P (xs ++ ys) → AllItems P xs × AllItems P ys
all_parts P [] ys h = (tt, h)
all_parts P (x ∷ xs) ys h = let rest = all_parts P xs ys h.1 in ((h.0, rest.0), rest.1)

-- what gives another fact of each item
pub all_kept : (P Q : Item → Type 0) (xs : List Item) → ((x : Item) → IsIn x xs → P x → Q x) → AllItems P xs → AllItems Q xs
all_kept P Q [] give h = tt
all_kept P Q (x ∷ xs) give h = (give x (inl refl) h.0, all_kept P Q xs (λ y k. give y (inr k)) h.1)

pub all_applied : (P Q : Item → Type 0) (xs : List Item) → AllItems (λ x. P x → Q x) xs → AllItems P xs → AllItems Q xs
all_applied P Q [] give h = tt
all_applied P Q (x ∷ xs) give h = (give.0 h.0, all_applied P Q xs give.1 h.1)

-- a fact that each has one of them has
pub each_at : (P : Item → Type 0) (x : Item) (xs : List Item) → AllItems P xs → IsIn x xs → P x
each_at P x [] h k = absurd k
each_at P x (y ∷ ys) h (inl same) = subst P (sym same) h.0
each_at P x (y ∷ ys) h (inr k) = each_at P x ys h.1 k

-- items that give nothing each give nothing together
pub none_given : {B : Type 0} (give : Item → List B) (xs : List Item) → AllItems (λ x. give x ≡ []) xs → flat_map give xs ≡ []
none_given give [] h = refl
none_given give (x ∷ xs) h = rw (h.0, none_given give xs h.1) refl

-- a fact of each foreign line
pub each_line : (P : Item → Type 0) (from : ℕ) (paths : List (List ℕ)) → ((n : ℕ) (path : List ℕ) → n < from + length paths → P (foreign_line Es n path))
    → AllItems P (foreign_lines from paths)
each_line P from [] h = tt
each_line P from (path ∷ paths) h = (h from path (omega arith), each_line P (from + 1) paths (λ n p less. h n p (omega (arith, less))))

-- a fact that an item has where it stands, if it has it wherever it stands among all
pub each_among : (Q : List Item → Item → List Item → Type 0) (all before items : List Item) → before ++ items ≡ all
    → ((b : List Item) (x : Item) (a : List Item) → IsIn x items → b ++ x ∷ a ≡ all → Q b x a) → EachItem Q before items
each_among Q all before [] whole give = tt
each_among Q all before (item ∷ items) whole give = (
  give before item items (inl refl) whole,
  each_among Q all (before ++ item ∷ []) items (append_assoc before (item ∷ []) items ∙ whole) (λ b x a k e. give b x a (inr k) e),
)

-- a fact that an item has wherever it stands
pub each_any : (Q : List Item → Item → List Item → Type 0) (before items : List Item) → AllItems (λ item. (b a : List Item) → Q b item a) items → EachItem Q before items
each_any Q before [] h = tt
each_any Q before (item ∷ items) h = (h.0 before items, each_any Q (before ++ item ∷ []) items h.1)

-- what holds of no items, and with each item and its counterpart of one more
pub matched : {A B : Type 0} (R : A → B → Type 0) (S : List A → List B → Type 0) (xs : List A) (ys : List B) → AllZip R xs ys → S [] []
    → ((x : A) (y : B) (us : List A) (vs : List B) → IsIn x xs → IsIn y ys → R x y → S us vs → S (x ∷ us) (y ∷ vs)) → S xs ys
matched R S [] [] m none more = none
matched R S (x ∷ xs) (y ∷ ys) m none more =
    more x y xs ys (inl refl) (inl refl) m.0 (matched R S xs ys m.1 none (λ u v us vs k i. more u v us vs (inr k) (inr i)))
matched R S xs ys m none more = absurd m

-- ---- the items of a description: a fact of each, and what they give together

-- one more item behind those that are known
put_behind : {A : Type 0} {before after : List A} (known : List A) (x : A) → after ≡ before ++ x ∷ [] → before ≡ known → after ≡ known ++ x ∷ []
put_behind known x put is = put ∙ ap (λ xs. xs ++ x ∷ []) is

-- nine groups, put one behind the other into an empty list
pub nine_put : {g0 g1 g2 g3 g4 g5 g6 g7 g8 g9 : List (List Item)} (a b c d e f g h i : List Item) → g0 ≡ [] → g1 ≡ g0 ++ a ∷ [] → g2 ≡ g1 ++ b ∷ []
    → g3 ≡ g2 ++ c ∷ [] → g4 ≡ g3 ++ d ∷ [] → g5 ≡ g4 ++ e ∷ [] → g6 ≡ g5 ++ f ∷ [] → g7 ≡ g6 ++ g ∷ [] → g8 ≡ g7 ++ h ∷ [] → g9 ≡ g8 ++ i ∷ []
    → g9 ≡ a ∷ b ∷ c ∷ d ∷ e ∷ f ∷ g ∷ h ∷ i ∷ []
nine_put a b c d e f g h i none p1 p2 p3 p4 p5 p6 p7 p8 p9 =
    put_behind (a ∷ b ∷ c ∷ d ∷ e ∷ f ∷ g ∷ h ∷ []) i p9
    (put_behind (a ∷ b ∷ c ∷ d ∷ e ∷ f ∷ g ∷ []) h p8
    (put_behind (a ∷ b ∷ c ∷ d ∷ e ∷ f ∷ []) g p7
    (put_behind (a ∷ b ∷ c ∷ d ∷ e ∷ []) f p6
    (put_behind (a ∷ b ∷ c ∷ d ∷ []) e p5
    (put_behind (a ∷ b ∷ c ∷ []) d p4
    (put_behind (a ∷ b ∷ []) c p3
    (put_behind (a ∷ []) b p2
    (put_behind [] a p1 none))))))))

-- these groups are those up to loading
pub groups_made : (stem : List ℕ) (frame : Frame) (called : List Imported) (groups : List (List Item))
    (lines foreign constants declares started defines ended closures lists : List Item) (start end : Item)
    → groups ≡ lines ∷ foreign ∷ constants ∷ declares ∷ started ∷ defines ∷ ended ∷ closures ∷ lists ∷ [] → foreign ≡ foreign_lines 1 frame.modules
    → constants ≡ vendor_items called → started ≡ start ∷ [] → start ≡ frame_start stem frame.memory → ended ≡ end ∷ []
    → end ≡ frame_end stem frame.modules frame.strings → groups ≡ front_groups stem frame lines (vendor_items called) declares defines closures lists
groups_made stem frame called groups lines foreign constants declares started defines ended closures lists start end put taken held opened begins closed ends =
    put ∙ rw (taken, held, opened, begins, closed, ends) refl

-- what is put together is what settings and description ask for
pub glue_made : (s : Settings) (m : NameMap) (l : Lowered) (pairs : List (ImportId × ℕ)) (places : List ℕ) (called : List Imported) (frame : Frame)
    (groups : List (List Item)) (front items group : List Item) (last : Item) (parts : HelperParts)
    → IsArranged (pair_order l) (own_pairs s l) pairs → IsArranged (place_order l) (own_imports s l.«module» l.wit l.aux) places
    → called ≡ drawn_imports s l m pairs → frame ≡ frame_of s l
    → AreGroups s m l places called frame groups → front ≡ joined_groups groups → AreAsked parts front group
    → items ≡ front ++ (group ++ last ∷ []) → last ≡ loading_item s.stem (has_strings s l) (has_start l.«module») → parts ≡ helper_parts s l m → are_few l.«module» ≡ true
    → IsGlue s m l items
glue_made s m l pairs places called frame groups front items group last parts by_import by_place listed framed are joined asked put loads known few =
    let drawn = drawn_imports s l m pairs in
    let whole = frame_of s l in
    let g : AreGroups s m l places drawn whole groups =
    subst (λ (f : Frame). AreGroups s m l places drawn f groups) framed (subst (λ (is : List Imported). AreGroups s m l places is frame groups) listed are) in
    let consts = vendor_items drawn in
    let rest = front_items s.stem whole g.lines consts g.declares g.defines g.closures g.lists in
    let all : front ≡ rest = joined ∙ ap joined_groups g.are in
    record {
      pairs = pairs;
      by_import = by_import;
      places = places;
      by_place = by_place;
      lines = g.lines;
      imported = g.imported;
      declares = g.declares;
      defines = g.defines;
      helpers = group;
      declared = g.declared;
      defined = g.defined;
      closures = g.closures;
      enclosed = g.enclosed;
      lists = g.lists;
      listed = g.listed;
      numbered = g.numbered;
      few = few;
      asked = subst (λ (p : HelperParts). AreAsked p rest group) known (subst (λ (xs : List Item). AreAsked parts xs group) all asked);
      all = put ∙ ap (λ (xs : List Item). xs ++ (group ++ last ∷ [])) all ∙ ap (λ (x : Item). rest ++ (group ++ x ∷ [])) loads;
    }

module _ {s : Settings} {m : NameMap} {l : Lowered} {items : List Item} (g : IsGlue s m l items) where
  abbrev pub modules : List (List ℕ)
  modules = foreign_modules s l

  abbrev pub memory : Bool
  memory = takes_memory s l

  abbrev pub strings : Bool
  strings = has_strings s l

  abbrev pub imports : List Imported
  imports = drawn_imports s l m g.pairs

  abbrev pub constants : List Item
  constants = vendor_items imports

  abbrev pub declared_items : List Item
  declared_items = g.declares

  -- the items, with these helpers
  abbrev pub items_with : List Item → List Item
  items_with helpers = all_items s.stem (has_start l.«module») (frame_of s l) g.lines constants declared_items g.defines g.closures g.lists helpers

  abbrev pub front : List Item
  front = front_items s.stem (frame_of s l) g.lines constants declared_items g.defines g.closures g.lists

  abbrev pub loading : Item
  loading = loading_item s.stem strings (has_start l.«module»)

  -- what stands behind lines and constants
  abbrev ends : List Item
  ends = frame_end s.stem modules strings ∷ (g.closures ++ (g.lists ++ []))

  abbrev framed : List Item
  framed = frame_start s.stem memory ∷ (g.defines ++ ends)

  -- an item of what is published stands among all
  pub declared_stands : (helpers : List Item) (item : Item) → IsIn item declared_items → IsIn item (items_with helpers)
  declared_stands helpers item i =
      in_left item front (helpers ++ loading ∷ [])
      (in_right item g.lines (foreign_lines 1 modules ++ (constants ++ (declared_items ++ framed)))
      (in_right item (foreign_lines 1 modules) (constants ++ (declared_items ++ framed))
      (in_right item constants (declared_items ++ framed) (in_left item declared_items framed i))))

  -- an item of the import lines, or of the constants, does
  pub imported_stands : (helpers : List Item) (item : Item) → IsIn item g.lines ⊎ IsIn item constants → IsIn item (items_with helpers)
  imported_stands helpers item (inl i) =
      in_left item front (helpers ++ loading ∷ []) (in_left item g.lines (foreign_lines 1 modules ++ (constants ++ (declared_items ++ framed))) i)
  imported_stands helpers item (inr i) =
      in_left item front (helpers ++ loading ∷ [])
      (in_right item g.lines (foreign_lines 1 modules ++ (constants ++ (declared_items ++ framed)))
      (in_right item (foreign_lines 1 modules) (constants ++ (declared_items ++ framed)) (in_left item constants (declared_items ++ framed) i)))

  -- so does the function of a closure
  pub closure_stands : (helpers : List Item) (item : Item) → IsIn item g.closures → IsIn item (items_with helpers)
  closure_stands helpers item i =
      in_left item front (helpers ++ loading ∷ [])
      (in_right item g.lines (foreign_lines 1 modules ++ (constants ++ (declared_items ++ framed)))
      (in_right item (foreign_lines 1 modules) (constants ++ (declared_items ++ framed))
      (in_right item constants (declared_items ++ framed)
      (in_right item declared_items framed
      (inr (in_right item g.defines ends (inr (in_left item g.closures (g.lists ++ []) i))))))))

  -- each item has a fact that each kind of item has
  pub each_item : (P : Item → Type 0) (helpers : List Item) → AllItems P g.lines → AllItems P (foreign_lines 1 modules) → AllItems P constants
      → AllItems P declared_items
      → ((place : ℕ) (item : Item) → IsIn place (own_imports s l.«module» l.wit l.aux) → IsDefineItem s m l place item → P item)
      → P (frame_start s.stem memory) → P (frame_end s.stem modules strings) → AllItems P g.closures → AllItems P g.lists → AllItems P helpers → P loading
      → AllItems P (items_with helpers)
  each_item P helpers imported foreign consts declares b start end closures lists held loads =
      let defines = matched (IsDefineItem s m l) (λ ps. AllItems P) g.places g.defines g.defined tt
      (λ place item ps js k i x h. (b place item (arranged_from g.by_place place k) x, h)) in
      all_joined P front (helpers ++ loading ∷ [])
      (all_joined P g.lines (foreign_lines 1 modules ++ (constants ++ (declared_items ++ framed))) imported
      (all_joined P (foreign_lines 1 modules) (constants ++ (declared_items ++ framed)) foreign
      (all_joined P constants (declared_items ++ framed) consts
      (all_joined P declared_items framed declares (
        start,
        all_joined P g.defines ends defines
            (end, all_joined P g.closures (g.lists ++ []) closures (all_joined P g.lists [] lists tt)),
      )))))
      (all_joined P helpers (loading ∷ []) held (loads, tt))

  -- what all items but helpers have, and helpers have too, all have
  pub with_held : (P : Item → Type 0) (helpers : List Item) → AllItems P (items_with []) → AllItems P helpers → AllItems P (items_with helpers)
  with_held P helpers h held =
      let parts = all_parts P front (loading ∷ []) h in all_joined P front (helpers ++ loading ∷ []) parts.0 (all_joined P helpers (loading ∷ []) held parts.1)

  -- what the items give is what lines, constants, published things, imports, functions of closures, lists, helpers and the fixed items do
  pub given : {B : Type 0} (give : Item → List B) (h : ℕ → List B) (helpers : List Item)
      → ((place : ℕ) (item : Item) → IsIn place (own_imports s l.«module» l.wit l.aux) → IsDefineItem s m l place item → give item ≡ h place)
      → flat_map give (items_with helpers) ≡ (flat_map give g.lines ++ (flat_map give (foreign_lines 1 modules) ++ (flat_map give constants ++
      (flat_map give declared_items ++ (give (frame_start s.stem memory) ++ (flat_map h g.places ++ (give (frame_end s.stem modules strings) ++
      (flat_map give g.closures ++ (flat_map give g.lists ++ []))))))))) ++
      (flat_map give helpers ++ (give loading ++ []))
  given give h helpers b =
      let defines = matched (IsDefineItem s m l) (λ ps js. flat_map give js ≡ flat_map h ps) g.places g.defines g.defined refl
      (λ place item ps js k i x q. rw (b place item (arranged_from g.by_place place k) x, q) refl) in
      rw (
        flat_map-append give front (helpers ++ loading ∷ []),
        flat_map-append give g.lines (foreign_lines 1 modules ++ (constants ++ (declared_items ++ framed))),
        flat_map-append give (foreign_lines 1 modules) (constants ++ (declared_items ++ framed)),
        flat_map-append give constants (declared_items ++ framed),
        flat_map-append give declared_items framed,
        flat_map-append give g.defines ends,
        defines,
        flat_map-append give g.closures (g.lists ++ []),
        flat_map-append give g.lists [],
        flat_map-append give helpers (loading ∷ []),
      ) refl
