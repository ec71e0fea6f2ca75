-- Drawing a list, filling the maps, and what the maps then say.
use Rattle.std.proofs.Common.{◌≡◌, ℕ, suc, ◌+◌, ◌<◌, min, Bool, true, false, List, [], ◌∷◌, ◌++◌, length, take, get_or, refl, sym, ap, subst, ◌∙◌, cond, arith, inl, inr, ◌⊎◌}
use Rattle.std.specs.Prelude.{Some, None, unwrap_or, map}
use Rattle.std.specs.List.{list_all}
use Rattle.std.specs.declared.cmp.Ordering.{Ordering}
use Rattle.std.specs.BTreeMap.{insert_entry}
use Rattle.std.specs.Ordering.{eq_by_cmp, is_eq}
use Rattle.std.specs.Cmp.{Equal-is, IsTotalOrder, tied_itself}
use Rattle.std.specs.Cmp.Lexicographic.{nat_list_cmp_total}
use Rattle.std.specs.FinSet as set
use Rattle.std.proofs.lemmas.Bool.{and_parts}
use Rattle.std.proofs.lemmas.List.{take_more, length-take}
use Rattle.values.specs.Lists.{IsIn, AreDistinct}
use Rattle.values.specs.Map.{look_up}
use Rattle.values.proofs.Maps.{look_up_inserted}
use Rattle.values.specs.TextSet.{TextSet, with_texts}
use Rattle.glue_words.specs.Ident.{is_ident, to_ident}
use Rattle.glue_scope.specs.Scope.{AreDrawn, IsFirstFree}
use Rattle.glue_scope.proofs.Drawn.{drawn-append, drawn_distinct, drawn_idents, drawn_new}
use Rattle.glue_naming.specs.declared.named.Named.{Named}
use Rattle.glue_naming.specs.declared.named.Named.TheVariants.{Class, Registry, Enum, Import, Function, Namespace}
use Rattle.glue_naming.specs.declared.named.Wanted.{Wanted}
use Rattle.glue_shared.specs.declared.import.JsImportName.{JsImportName}
use Rattle.glue_shared.specs.declared.name_map.NameMap.{NameMap}
use Rattle.glue_shared.specs.NameMap.{no_names}
use Rattle.glue_published.specs.Reexports.{import_order}
use Rattle.glue_naming.specs.Arranged.{text_order}
use Rattle.glue_naming.specs.Drawing.{name_wanted, turn_names, put_name, name_in, map_of, AreGood}
use Rattle.glue_published.proofs.ImportOrder.{import_order_total, import_same}

-- ---- the loops

-- the last of the names
abbrev pub last_name : List ℕ → List (List ℕ) → List ℕ
last_name last [] = last
last_name last (name ∷ names) = last_name name names

pub last_name-push : (last : List ℕ) (names : List (List ℕ)) (name : List ℕ) → last_name last (names ++ name ∷ []) ≡ name
last_name-push last [] name = refl
last_name-push last (n ∷ names) name = last_name-push n names name

suc_apart : (a b : ℕ) → a + 1 ≡ b + 1 → a ≡ b
suc_apart a b e = omega (arith, e)

-- one name more is wanted
pub turn_names-push : (last : List ℕ) (list : List Wanted) (names : List (List ℕ)) (w : Wanted) (name : List ℕ) → length names ≡ length list → turn_names last (list ++ w ∷ []) (names ++ name ∷ []) ≡ turn_names last list names ++ name_wanted (last_name last names) w.name ∷ []
turn_names-push last [] [] w name e = refl
turn_names-push last [] (n ∷ names) w name e = absurd (omega (arith, e))
turn_names-push last (v ∷ list) [] w name e = absurd (omega (arith, e))
turn_names-push last (v ∷ list) (n ∷ names) w name e = ap (λ (ws : List (List ℕ)). name_wanted last v.name ∷ ws) (turn_names-push n list names w name (omega (arith, e)))

-- as many as there are names
pub length-turns : (last : List ℕ) (list : List Wanted) (names : List (List ℕ)) → length names ≡ length list → length names ≡ length (turn_names last list names)
length-turns last [] [] e = refl
length-turns last [] (n ∷ names) e = absurd (omega (arith, e))
length-turns last (w ∷ list) [] e = absurd (omega (arith, e))
length-turns last (w ∷ list) (n ∷ names) e = ap suc (length-turns n list names (omega (arith, e)))

-- one name more is kept
pub map_of-push : (m : NameMap) (list : List Wanted) (names : List (List ℕ)) (w : Wanted) (name : List ℕ) → length names ≡ length list → map_of m (list ++ w ∷ []) (names ++ name ∷ []) ≡ put_name (map_of m list names) w.thing name
map_of-push m [] [] w name e = refl
map_of-push m [] (n ∷ names) w name e = absurd (omega (arith, e))
map_of-push m (v ∷ list) [] w name e = absurd (omega (arith, e))
map_of-push m (v ∷ list) (n ∷ names) w name e = map_of-push (put_name m v.thing n) list names w name (omega (arith, e))

-- one name more is drawn
pub drawn_next : (b now : TextSet) (list : List Wanted) (names : List (List ℕ)) (w : Wanted) (name : List ℕ) → length names ≡ length list → AreDrawn b (turn_names [] list names) names → now ≡ with_texts b names → IsFirstFree now (to_ident (name_wanted (last_name [] names) w.name)) name → AreDrawn b (turn_names [] (list ++ w ∷ []) (names ++ name ∷ [])) (names ++ name ∷ [])
drawn_next b now list names w name e d is f =
    let wanted = name_wanted (last_name [] names) w.name in
    let one : IsFirstFree (with_texts b names) (to_ident wanted) name = subst (λ (s : TextSet). IsFirstFree s (to_ident wanted) name) is f in
    subst (λ (ws : List (List ℕ)). AreDrawn b ws (names ++ name ∷ [])) (sym (turn_names-push [] list names w name e))
    (drawn-append b (turn_names [] list names) (wanted ∷ []) names (name ∷ []) d (one, tt))

pub take_next : {A : Type 0} (xs : List A) (i : ℕ) (x : A) → i < length xs → x ≡ get_or xs i x → take (i + 1) xs ≡ take i xs ++ x ∷ []
take_next xs i x lt e = take_more xs i x lt ∙ ap (λ y. take i xs ++ y ∷ []) (sym e)

-- the maps of one thing more
pub filled_next : (m : NameMap) (list : List Wanted) (names : List (List ℕ)) (i : ℕ) (w : Wanted) (name : List ℕ) → length names ≡ length list → i < length list → w ≡ get_or list i w → name ≡ get_or names i name → map_of m (take (i + 1) list) (take (i + 1) names) ≡ put_name (map_of m (take i list) (take i names)) w.thing name
filled_next m list names i w name e lt is named =
    rw (take_next list i w lt is, take_next names i name (omega (arith, e, lt)) named)
    (map_of-push m (take i list) (take i names) w name (length-take i names ∙ ap (min i) e ∙ sym (length-take i list)))

-- ---- one name in the maps

same_text : (x y : List ℕ) → eq_by_cmp text_order x y ≡ true → x ≡ y
same_text x y h = set.slice_cmp-IsAntisymmetric set.nat_cmp-IsAntisymmetric x y ((Equal-is (text_order x y)).0 h)

some_apart : (x y : List ℕ) → Some x ≡ Some y → x ≡ y
some_apart x y e = ap (λ o. unwrap_or o x) e

none_is : (x : List ℕ) → None ≡ Some x → ⊥
none_is x e = cc

HasName : NameMap → Named → Type 0
HasName m thing = (name : List ℕ) × (name_in m thing ≡ Some name)

module _ {K : Type 0} (R : K → K → Ordering) (total : IsTotalOrder R) (same : (x y : K) → eq_by_cmp R x y ≡ true → x ≡ y) (es : List (K × List ℕ)) (key : K) (name : List ℕ) where
  told_case : (q : K) (k : List ℕ) (b : Bool) → (b ≡ true → q ≡ key) → cond b (Some name) (look_up R es q) ≡ Some k → ((q ≡ key) × (k ≡ name)) ⊎ (look_up R es q ≡ Some k)
  told_case q k true is e = inl (is refl, sym (some_apart name k e))
  told_case q k false is e = inr e

  at : (q : K) → look_up R (insert_entry R es key name) q ≡ cond (eq_by_cmp R q key) (Some name) (look_up R es q)
  at q = look_up_inserted R total es key name q

  told_at : (q : K) (k : List ℕ) → look_up R (insert_entry R es key name) q ≡ Some k → ((q ≡ key) × (k ≡ name)) ⊎ (look_up R es q ≡ Some k)
  told_at q k e = told_case q k (eq_by_cmp R q key) (same q key) (sym (at q) ∙ e)

  here_at : look_up R (insert_entry R es key name) key ≡ Some name
  here_at = at key ∙ ap (λ b. cond b (Some name) (look_up R es key)) (ap is_eq (tied_itself total key))

  kept_case : (q : K) (k : List ℕ) (b : Bool) → look_up R es q ≡ Some k → (j : List ℕ) × (cond b (Some name) (look_up R es q) ≡ Some j)
  kept_case q k true e = (name, refl)
  kept_case q k false e = (k, e)

  kept_at : (q : K) (k : List ℕ) → look_up R es q ≡ Some k → (j : List ℕ) × (look_up R (insert_entry R es key name) q ≡ Some j)
  kept_at q k e = let c = kept_case q k (eq_by_cmp R q key) e in (c.0, at q ∙ c.1)

-- the same at texts, and at names that imports begin with
module _ (es : List (List ℕ × List ℕ)) (key name : List ℕ) where
  abbrev text_told : (q k : List ℕ) → look_up text_order (insert_entry text_order es key name) q ≡ Some k → ((q ≡ key) × (k ≡ name)) ⊎ (look_up text_order es q ≡ Some k)
  text_told = told_at text_order nat_list_cmp_total same_text es key name

  abbrev text_here : look_up text_order (insert_entry text_order es key name) key ≡ Some name
  text_here = here_at text_order nat_list_cmp_total same_text es key name

  abbrev text_kept : (q k : List ℕ) → look_up text_order es q ≡ Some k → (j : List ℕ) × (look_up text_order (insert_entry text_order es key name) q ≡ Some j)
  text_kept = kept_at text_order nat_list_cmp_total same_text es key name

module _ (es : List (JsImportName × List ℕ)) (key : JsImportName) (name : List ℕ) where
  abbrev import_told : (q : JsImportName) (k : List ℕ) → look_up import_order (insert_entry import_order es key name) q ≡ Some k → ((q ≡ key) × (k ≡ name)) ⊎ (look_up import_order es q ≡ Some k)
  import_told = told_at import_order import_order_total import_same es key name

  abbrev import_here : look_up import_order (insert_entry import_order es key name) key ≡ Some name
  import_here = here_at import_order import_order_total import_same es key name

  abbrev import_kept : (q : JsImportName) (k : List ℕ) → look_up import_order es q ≡ Some k → (j : List ℕ) × (look_up import_order (insert_entry import_order es key name) q ≡ Some j)
  import_kept = kept_at import_order import_order_total import_same es key name

none_in : (thing : Named) (name : List ℕ) → name_in no_names thing ≡ Some name → ⊥
none_in (Class key) name e = none_is name e
none_in thing name e = none_is name e

-- a name that is found is the one that was put, or was there
told : (m : NameMap) (t u : Named) (name k : List ℕ) → name_in (put_name m t name) u ≡ Some k → ((u ≡ t) × (k ≡ name)) ⊎ (name_in m u ≡ Some k)
told m (Class i) (Class j) name k e = elim (text_told m.classes i name j k e) [ inl p ↦ inl (ap Class p.0, p.1) | inr p ↦ inr p ]
told m (Registry i) (Registry j) name k e = elim (text_told m.registries i name j k e) [ inl p ↦ inl (ap Registry p.0, p.1) | inr p ↦ inr p ]
told m (Enum i) (Enum j) name k e = elim (text_told m.enums i name j k e) [ inl p ↦ inl (ap Enum p.0, p.1) | inr p ↦ inr p ]
told m (Import i) (Import j) name k e = elim (import_told m.imports i name j k e) [ inl p ↦ inl (ap Import p.0, p.1) | inr p ↦ inr p ]
told m (Function i) (Function j) name k e = elim (text_told m.functions i name j k e) [ inl p ↦ inl (ap Function p.0, p.1) | inr p ↦ inr p ]
told m (Namespace i) (Namespace j) name k e = elim (text_told m.namespaces i name j k e) [ inl p ↦ inl (ap Namespace p.0, p.1) | inr p ↦ inr p ]
told m t u name k e = inr e

-- a name that was put is found
here : (m : NameMap) (t : Named) (name : List ℕ) → name_in (put_name m t name) t ≡ Some name
here m (Class i) name = text_here m.classes i name
here m (Registry i) name = text_here m.registries i name
here m (Enum i) name = text_here m.enums i name
here m (Import i) name = import_here m.imports i name
here m (Function i) name = text_here m.functions i name
here m (Namespace i) name = text_here m.namespaces i name

-- what had a name has one
kept : (m : NameMap) (t u : Named) (name k : List ℕ) → name_in m u ≡ Some k → (j : List ℕ) × (name_in (put_name m t name) u ≡ Some j)
kept m (Class i) (Class j) name k e = text_kept m.classes i name j k e
kept m (Registry i) (Registry j) name k e = text_kept m.registries i name j k e
kept m (Enum i) (Enum j) name k e = text_kept m.enums i name j k e
kept m (Import i) (Import j) name k e = import_kept m.imports i name j k e
kept m (Function i) (Function j) name k e = text_kept m.functions i name j k e
kept m (Namespace i) (Namespace j) name k e = text_kept m.namespaces i name j k e
kept m t u name k e = (k, e)

-- ---- all names in the maps

-- the name stands at the thing's place
abbrev pub IsAt : Named → List ℕ → List Wanted → List (List ℕ) → Type 0
IsAt thing name [] names = ⊥
IsAt thing name (w ∷ list) [] = ⊥
IsAt thing name (w ∷ list) (n ∷ names) = ((thing ≡ w.thing) × (name ≡ n)) ⊎ IsAt thing name list names

located : (m : NameMap) (list : List Wanted) (names : List (List ℕ)) (thing : Named) (name : List ℕ) → name_in (map_of m list names) thing ≡ Some name → IsAt thing name list names ⊎ (name_in m thing ≡ Some name)
located m [] names thing name e = inr e
located m (w ∷ list) [] thing name e = inr e
located m (w ∷ list) (n ∷ names) thing name e = elim (located (put_name m w.thing n) list names thing name e) [
  | inl later ↦ inl (inr later)
  | inr there ↦ elim (told m w.thing thing n name there) [ inl p ↦ inl (inl p) | inr before ↦ inr before ]
]

keeps : (m : NameMap) (list : List Wanted) (names : List (List ℕ)) (thing : Named) (k : List ℕ) → name_in m thing ≡ Some k → (j : List ℕ) × (name_in (map_of m list names) thing ≡ Some j)
keeps m [] names thing k e = (k, e)
keeps m (w ∷ list) [] thing k e = (k, e)
keeps m (w ∷ list) (n ∷ names) thing k e = let one = kept m w.thing thing n k e in keeps (put_name m w.thing n) list names thing one.0 one.1

has_all : (m : NameMap) (list : List Wanted) (names : List (List ℕ)) → length names ≡ length list → (thing : Named) → IsIn thing (map (λ w. w.thing) list) → (j : List ℕ) × (name_in (map_of m list names) thing ≡ Some j)
has_all m [] names e thing at = absurd at
has_all m (w ∷ list) [] e thing at = absurd (omega (arith, e))
has_all m (w ∷ list) (n ∷ names) e thing (inl same) =
    keeps (put_name m w.thing n) list names thing n (ap (name_in (put_name m w.thing n)) same ∙ here m w.thing n)
has_all m (w ∷ list) (n ∷ names) e thing (inr at) = has_all (put_name m w.thing n) list names (omega (arith, e)) thing at

at_in : (thing : Named) (name : List ℕ) (list : List Wanted) (names : List (List ℕ)) → IsAt thing name list names → IsIn name names
at_in thing name [] names h = absurd h
at_in thing name (w ∷ list) [] h = absurd h
at_in thing name (w ∷ list) (n ∷ names) (inl p) = inl p.1
at_in thing name (w ∷ list) (n ∷ names) (inr h) = inr (at_in thing name list names h)

at_once : (one other : Named) (name : List ℕ) (list : List Wanted) (names : List (List ℕ)) → AreDistinct names → IsAt one name list names → IsAt other name list names → one ≡ other
at_once one other name [] names d h k = absurd h
at_once one other name (w ∷ list) [] d h k = absurd h
at_once one other name (w ∷ list) (n ∷ names) d (inl p) (inl q) = p.0 ∙ sym q.0
at_once one other name (w ∷ list) (n ∷ names) d (inl p) (inr k) = absurd (d.0 (subst (λ (x : List ℕ). IsIn x names) p.1 (at_in other name list names k)))
at_once one other name (w ∷ list) (n ∷ names) d (inr h) (inl q) = absurd (d.0 (subst (λ (x : List ℕ). IsIn x names) q.1 (at_in one name list names h)))
at_once one other name (w ∷ list) (n ∷ names) d (inr h) (inr k) = at_once one other name list names d.1 h k

pub all_at : {A : Type 0} (p : A → Bool) (x : A) (xs : List A) → list_all p xs ≡ true → IsIn x xs → p x ≡ true
all_at p x [] h i = absurd i
all_at p x (y ∷ xs) h (inl same) = ap p same ∙ (and_parts (p y) (list_all p xs) h).0
all_at p x (y ∷ xs) h (inr i) = all_at p x xs (and_parts (p y) (list_all p xs) h).1 i

pub stands : (list : List Wanted) (names : List (List ℕ)) (m : NameMap) (thing : Named) (name : List ℕ) → m ≡ map_of no_names list names → name_in m thing ≡ Some name → IsAt thing name list names
stands list names m thing name is e = elim (located no_names list names thing name (ap (λ (x : NameMap). name_in x thing) (sym is) ∙ e)) [ inl h ↦ h | inr n ↦ absurd (none_in thing name n) ]

not_there : (b : Bool) → (b ≡ true → ⊥) → b ≡ false
not_there true h = absurd (h refl)
not_there false h = refl

pub good : (bound : TextSet) (list : List Wanted) (names : List (List ℕ)) (m : NameMap) → length names ≡ length list → AreDrawn bound (turn_names [] list names) names → m ≡ map_of no_names list names → AreGood bound list m
good bound list names m e d is = record {
  found = λ thing at. let h = has_all no_names list names e thing at in (h.0, ap (λ (x : NameMap). name_in x thing) is ∙ h.1);
  idents = λ thing name h. all_at is_ident name names (drawn_idents bound (turn_names [] list names) names d) (at_in thing name list names (stands list names m thing name is h));
  free = λ thing name h. not_there (set.contains bound name) (drawn_new bound (turn_names [] list names) names name d (at_in thing name list names (stands list names m thing name is h)));
  apart = λ one other name h k. at_once one other name list names (drawn_distinct bound (turn_names [] list names) names d) (stands list names m one name is h) (stands list names m other name is k);
}
