-- The words of the fields that lead to a host's function: how they stand, and the names that they tell.
use Rattle.std.proofs.Common.{◌≡◌, ℕ, List, [], ◌∷◌, ◌++◌, refl, ap, sym, ◌∙◌, subst, Bool, true, false, cond}
use Rattle.std.proofs.lemmas.List.{append-nil}
use Rattle.std.proofs.lemmas.List.Folds.{list_all-append}
use Rattle.std.proofs.lemmas.List.Elements.{filter_map-append}
use Rattle.std.specs.Prelude.{Option, Some, None, ◌&&◌, ◌==◌, filter}
use Rattle.std.specs.List.{list_all, filter_map, flat_map, slice_split}
use Rattle.glue_words.specs.declared.word.Word.{Word}
use Rattle.glue_words.specs.declared.word.Word.TheVariants as w
use Rattle.glue_words.specs.Ident.{is_ident}
use Rattle.glue_words.specs.Limits.{is_computed}
use Rattle.glue_words.specs.Tables.{punct_text}
use Rattle.glue_words.specs.Names.{bound_name, used_name, hosted_name, local_name, local_bound_name, wasm_name, spliced_key, bound_in, used_in, hosted_in, local_in, local_bound_in, wasm_in, spliced_in}
use Rattle.glue_words.specs.Spacing.{joins, first_word, each_next}
use Rattle.glue_words.proofs.Idents.{ident_prop}
use Rattle.glue_words.proofs.Spaced.{first_word-append, each_next_both, all_both}
use Rattle.glue_scope.specs.Properties.{segment_words, property_parts}
use Rattle.glue_tree.specs.FixedWords.{open_bracket, close_bracket, dot}
use Rattle.glue_tree.proofs.Fit.{is_good, spaced}
use Rattle.glue_tree.proofs.Functions.{bound_kind, used_kind, hosted_kind, local_kind, local_bound_kind, wasm_kind, spliced_kind}
use Rattle.glue_tree.proofs.Names.{IsKind}
use Rattle.glue_operands.specs.Spelling.{path_words, without_dot, chained_words}

and_true : (a b : Bool) → a ≡ true → b ≡ true → (a && b) ≡ true
and_true a b h k = ap (λ x. x && b) h ∙ k

-- ---- all fields at once

-- a property of words with the computed keys among them, by the words of one access and by joined words
record IsPathwise (P : List Word → List (List ℕ) → Type 0) : Type 0 where
  none : P [] []
  both : (xs ys : List Word) (keys others : List (List ℕ)) → P xs keys → P ys others → P (xs ++ ys) (keys ++ others)
  named : (name : List ℕ) → is_ident name ≡ true → P (dot ∷ w.Prop name ∷ []) []
  quoted : (text : List ℕ) → P (open_bracket ∷ w.Text text ∷ close_bracket ∷ []) []
  spliced : (key : List ℕ) → is_computed key ≡ true → P (w.Splice key ∷ []) (key ∷ [])

module _ (P : List Word → List (List ℕ) → Type 0) (is : IsPathwise P) where
  segment_has : (name : List ℕ) → P (segment_words name) []
  unfolding segment_words
  segment_has name = by (is_ident name) refl
    where
      by : (b : Bool) → is_ident name ≡ b
          → P (cond b (dot ∷ w.Prop name ∷ []) (open_bracket ∷ w.Text name ∷ close_bracket ∷ [])) []
      by true h = is.named name h
      by false h = is.quoted name

  segments_have : (names : List (List ℕ)) → P (flat_map segment_words names) []
  segments_have [] = is.none
  segments_have (name ∷ names) = is.both (segment_words name) (flat_map segment_words names) [] [] (segment_has name)
      (segments_have names)

  first_has : (field : List ℕ) (words : List Word) (keys : List (List ℕ)) → P words keys
      → P (property_parts field ++ words) (cond (is_computed field) (field ∷ keys) keys)
  unfolding property_parts
  first_has field words keys rest = by (is_computed field) refl
    where
      parts : List Word
      parts = flat_map segment_words (slice_split (λ b. b == 46) field)

      by : (b : Bool) → is_computed field ≡ b → P (cond b (w.Splice field ∷ []) parts ++ words)
          (cond b (field ∷ keys) keys)
      by true h = is.both (w.Splice field ∷ []) words (field ∷ []) keys (is.spliced field h) rest
      by false h = is.both parts words [] keys (segments_have (slice_split (λ b. b == 46) field)) rest

  path_has : (fields : List (List ℕ)) → P (path_words fields) (filter is_computed fields)
  path_has [] = is.none
  path_has (field ∷ fields) = first_has field (path_words fields) (filter is_computed fields) (path_has fields)

-- ---- names

-- words tell no names but these computed keys
pub record TellsKeys (words : List Word) (keys : List (List ℕ)) : Type 0 where
  pub binds : bound_in words ≡ []
  pub uses : used_in words ≡ []
  pub hosts : hosted_in words ≡ []
  pub declares : local_bound_in words ≡ []
  pub locals : local_in words ≡ []
  pub takes : wasm_in words ≡ []
  pub splices : spliced_in words ≡ keys
  pub formed : list_all is_computed keys ≡ true

joined_names : (kind : Word → Option (List ℕ)) (xs ys : List Word) (names others : List (List ℕ))
    → filter_map kind xs ≡ names → filter_map kind ys ≡ others → filter_map kind (xs ++ ys) ≡ names ++ others
joined_names kind xs ys names others h k =
    filter_map-append kind xs ys
    ∙ ap (λ (ns : List (List ℕ)). ns ++ filter_map kind ys) h
    ∙ ap (λ (ns : List (List ℕ)). names ++ ns) k

-- names of a kind that properties and computed keys have none of
path_none : (kind : Word → Option (List ℕ)) → IsKind kind → ((name : List ℕ) → kind (w.Prop name) ≡ None)
    → ((key : List ℕ) → kind (w.Splice key) ≡ None) → (fields : List (List ℕ)) → filter_map kind (path_words fields) ≡ []
path_none kind is no_prop no_key fields = path_has (λ words keys. filter_map kind words ≡ []) (record {
  none = refl;
  both = λ xs ys keys others h k. joined_names kind xs ys [] [] h k;
  named = λ name h. rw (is.punct 6, no_prop name) refl;
  quoted = λ text. rw (is.punct 4, is.text text, is.punct 5) refl;
  spliced = λ key h. rw (no_key key) refl;
}) fields

path_splices : (fields : List (List ℕ)) → spliced_in (path_words fields) ≡ filter is_computed fields
path_splices fields = path_has (λ words keys. spliced_in words ≡ keys) (record {
  none = refl;
  both = λ xs ys keys others h k. joined_names spliced_key xs ys keys others h k;
  named = λ name h. refl;
  quoted = λ text. refl;
  spliced = λ key h. refl;
}) fields

path_formed : (fields : List (List ℕ)) → list_all is_computed (filter is_computed fields) ≡ true
path_formed fields = path_has (λ words keys. list_all is_computed keys ≡ true) (record {
  none = refl;
  both = λ xs ys keys others h k. list_all-append is_computed keys others ∙ and_true _ _ h k;
  named = λ name h. refl;
  quoted = λ text. refl;
  spliced = λ key h. and_true _ _ h refl;
}) fields

-- the words of fields tell no names but the fields that are computed keys
pub path_tells : (fields : List (List ℕ)) → TellsKeys (path_words fields) (filter is_computed fields)
path_tells fields = record {
  binds = path_none bound_name bound_kind (λ n. refl) (λ n. refl) fields;
  uses = path_none used_name used_kind (λ n. refl) (λ n. refl) fields;
  hosts = path_none hosted_name hosted_kind (λ n. refl) (λ n. refl) fields;
  declares = path_none local_bound_name local_bound_kind (λ n. refl) (λ n. refl) fields;
  locals = path_none local_name local_kind (λ n. refl) (λ n. refl) fields;
  takes = path_none wasm_name wasm_kind (λ n. refl) (λ n. refl) fields;
  splices = path_splices fields;
  formed = path_formed fields;
}

-- the access of one property tells nothing but a computed key
pub property_tells : (name : List ℕ) → TellsKeys (property_parts name) (filter is_computed (name ∷ []))
property_tells name =
    subst (λ (words : List Word). TellsKeys words (filter is_computed (name ∷ []))) (append-nil (property_parts name)) (path_tells (name ∷ []))

-- a dot has no name
undotted : (kind : Word → Option (List ℕ)) → IsKind kind → (words : List Word) → filter_map kind (without_dot words) ≡ filter_map kind words
undotted kind is [] = refl
undotted kind is (w.Punct place ∷ words) = by (place == 6)
  where
    by : (b : Bool) → filter_map kind (cond b words (w.Punct place ∷ words)) ≡ filter_map kind (w.Punct place ∷ words)
    by true = rw (is.punct place) refl
    by false = refl
undotted kind is (word ∷ words) = refl

chained_same : (kind : Word → Option (List ℕ)) → IsKind kind → (name : List ℕ) → filter_map kind (chained_words name) ≡ filter_map kind (property_parts name)
chained_same kind is name = rw (is.punct 11) (undotted kind is (property_parts name))

-- nor does that of what may be absent
pub chained_tells : (name : List ℕ) → TellsKeys (chained_words name) (filter is_computed (name ∷ []))
chained_tells name =
    let p = property_tells name in record {
      binds = chained_same bound_name bound_kind name ∙ p.binds;
      uses = chained_same used_name used_kind name ∙ p.uses;
      hosts = chained_same hosted_name hosted_kind name ∙ p.hosts;
      declares = chained_same local_bound_name local_bound_kind name ∙ p.declares;
      locals = chained_same local_name local_kind name ∙ p.locals;
      takes = chained_same wasm_name wasm_kind name ∙ p.takes;
      splices = chained_same spliced_key spliced_kind name ∙ p.splices;
      formed = p.formed;
    }

-- ---- spacing

-- what may follow a host's name, and each access of a property
pub record MayFollow (next : Option Word) : Type 0 where
  pub host : (name : List ℕ) → spaced (w.Host name false) next ≡ true
  pub named : (name : List ℕ) → spaced (w.Prop name) next ≡ true
  pub quoted : spaced close_bracket next ≡ true
  pub spliced : (key : List ℕ) → spaced (w.Splice key) next ≡ true

bracket_follows : MayFollow (Some open_bracket)
unfolding joins punct_text
bracket_follows = record { host = λ name. refl; named = λ name. refl; quoted = refl; spliced = λ key. refl }

dot_follows : MayFollow (Some dot)
unfolding joins punct_text
dot_follows = record { host = λ name. refl; named = λ name. refl; quoted = refl; spliced = λ key. refl }

key_follows : (key : List ℕ) → MayFollow (Some (w.Splice key))
key_follows key = record { host = λ name. refl; named = λ name. refl; quoted = refl; spliced = λ other. refl }

-- words that stand between a host's name and what may follow it
pub record StandsBetween (words : List Word) : Type 0 where
  pub good : list_all is_good words ≡ true
  pub front : (next : Option Word) → MayFollow next → MayFollow (first_word words next)
  pub each : (next : Option Word) → MayFollow next → each_next spaced words next ≡ true

standing : IsPathwise (λ words keys. StandsBetween words)
standing = record {
  none = record { good = refl; front = λ next f. f; each = λ next f. refl };
  both = λ xs ys keys others h k. record {
    good = all_both is_good xs ys h.good k.good;
    front = λ next f. subst MayFollow (sym (first_word-append xs ys next)) (h.front (first_word ys next) (k.front next f));
    each = λ next f. each_next_both spaced xs ys next (h.each (first_word ys next) (k.front next f)) (k.each next f);
  };
  named = λ name h. record {
    good = ap (λ (b : Bool). (((b && true) && true) && true) && true) (ident_prop name h);
    front = λ next f. dot_follows;
    each = λ next f. and_true _ _ (f.named name) refl;
  };
  quoted = λ text. record {
    good = refl;
    front = λ next f. bracket_follows;
    each = λ next f. and_true _ _ f.quoted refl;
  };
  spliced = λ key h. record {
    good = ap (λ (b : Bool). ((b && true) && true) && true) h;
    front = λ next f. key_follows key;
    each = λ next f. and_true _ _ (f.spliced key) refl;
  };
}

-- the words of fields stand so, and those of one property
pub path_stands : (fields : List (List ℕ)) → StandsBetween (path_words fields)
path_stands fields = path_has (λ words keys. StandsBetween words) standing fields

pub property_stands : (name : List ℕ) → StandsBetween (property_parts name)
property_stands name = subst StandsBetween (append-nil (property_parts name)) (path_stands (name ∷ []))
