-- The names in the words of an import's expression: those of its parts, and those of the operands.
use Rattle.std.proofs.Common.{◌≡◌, ℕ, pos, List, [], ◌∷◌, ◌++◌, map, refl, ap, sym, ◌∙◌, Bool, true, false}
use Rattle.std.proofs.lemmas.List.Elements.{filter_map-append}
use Rattle.std.specs.Prelude.{Option, None, codes, ◌&&◌}
use Rattle.std.specs.List.{filter_map, flat_map}
use Rattle.glue_words.specs.declared.word.Word.{Word}
use Rattle.glue_words.specs.declared.word.Word.TheVariants as w
use Rattle.glue_words.specs.declared.word.NoteKind.TheVariants.{Slash}
use Rattle.glue_words.specs.Names.{bound_name, bound_in, local_bound_name, local_name, local_bound_in, local_in}
use Rattle.glue_words.specs.Functions.{parenthesised}
use Rattle.glue_tree.specs.Spelling.{comma_unless, is_none}
use Rattle.glue_tree.specs.FixedWords.{close_paren}
use Rattle.glue_tree.proofs.Names.{IsKind}
use Rattle.glue_tree.proofs.Functions.{local_bound_kind}
use Rattle.glue_scope.specs.Properties.{property_parts}
use Rattle.glue_steps.specs.Stack.{below, item_at}
use Rattle.glue_imports.specs.declared.part.Part.{Part}
use Rattle.glue_imports.specs.declared.part.Part.TheVariants as part
use Rattle.glue_imports.specs.declared.part.Expression.{Expression}
use Rattle.glue_operands.specs.Spelling.{Plain, Missing, This, Local, Unsigned, NotZero, path_words, shift_words, unequal_words, is_comparison, word_if, plain_words, guarded_words, argument_words, arguments_words, chained_words, part_words, parts_words}
use Rattle.glue_operands.proofs.Paths.{path_tells, property_tells, chained_tells}

-- the words that a part brings along, whatever the locals and the operands are
abbrev pub outer_part : Part → List Word
outer_part (part.Host name fields) = w.Host name false ∷ path_words fields
outer_part (part.Name name) = w.Refer name false ∷ []
outer_part part.Exports = w.Refer (codes "wasm") false ∷ []
outer_part (part.Export name) = w.Refer (codes "wasm") false ∷ w.Wasm name ∷ []
outer_part (part.Property name) = property_parts name
outer_part (part.Chained name) = chained_words name
outer_part (part.Member name) = w.Prop name ∷ []
outer_part (part.Note text) = w.Note Slash text ∷ []
outer_part other = []

-- those of parts
abbrev pub outer_parts : List Part → List Word
outer_parts parts = flat_map outer_part parts

-- those of an expression and of the statements before it
abbrev pub outer_expression : Expression → List Word
outer_expression e = outer_parts e.prelude ++ outer_parts e.value

-- the same words, and the local that the part declares
abbrev pub named_part : (locals : List (List ℕ)) → Part → List Word
named_part locals (part.Binding n) = w.LocalBind (item_at [] locals n) ∷ []
named_part locals other = outer_part other

abbrev pub named_parts : (locals : List (List ℕ)) → List Part → List Word
named_parts locals parts = flat_map (named_part locals) parts

-- the places of the locals that parts declare, in order
abbrev pub bound_places : List Part → List ℕ
bound_places [] = []
bound_places (part.Binding n ∷ parts) = n ∷ bound_places parts
bound_places (p ∷ parts) = bound_places parts

-- ---- names of a kind that locals have none of

module _ (kind : Word → Option (List ℕ)) (is : IsKind kind) (local : (name : List ℕ) → kind (w.Local name) ≡ None) where
  abbrev found : List Word → List (List ℕ)
  found words = filter_map kind words

  both_none : (xs ys : List Word) → found xs ≡ [] → found ys ≡ [] → found (xs ++ ys) ≡ []
  both_none xs ys h k = filter_map-append kind xs ys ∙ ap (λ (ns : List (List ℕ)). ns ++ found ys) h ∙ k

  shift_none : found shift_words ≡ []
  shift_none = rw (is.gap (codes " "), is.punct 38, is.num (pos 0)) refl

  unequal_none : found unequal_words ≡ []
  unequal_none = rw (is.gap (codes " "), is.punct 18, is.num (pos 0)) refl

  mark_none : (b : Bool) (place : ℕ) → found (word_if b (w.Punct place)) ≡ []
  mark_none true place = rw (is.punct place) refl
  mark_none false place = refl

  operand_none : (p : Plain) → found (plain_words p) ≡ []
  operand_none Missing = rw (is.key 27) refl
  operand_none This = rw (is.key 35) refl
  operand_none (Local name) = rw (local name) refl
  operand_none (Unsigned p) =
      let opened = word_if (is_comparison p) (w.Punct 2) in
      let closed = word_if (is_comparison p) (w.Punct 3) in
      both_none opened (plain_words p ++ (closed ++ shift_words)) (mark_none (is_comparison p) 2)
      (both_none (plain_words p) (closed ++ shift_words) (operand_none p) (both_none closed shift_words (mark_none (is_comparison p) 3) shift_none))
  operand_none (NotZero p) = both_none (plain_words p) unequal_words (operand_none p) unequal_none

  parens_none : (words : List Word) → found words ≡ [] → found (parenthesised words) ≡ []
  parens_none words h = rw (is.punct 2) (both_none words (close_paren ∷ []) h (rw (is.punct 3) refl))

  guarded_none : (p : Plain) → found (guarded_words p) ≡ []
  guarded_none Missing = operand_none Missing
  guarded_none This = operand_none This
  guarded_none (Local name) = operand_none (Local name)
  guarded_none (Unsigned p) = parens_none (plain_words (Unsigned p)) (operand_none (Unsigned p))
  guarded_none (NotZero p) = parens_none (plain_words (NotZero p)) (operand_none (NotZero p))

  argument_none : (spread : Bool) (p : Plain) → found (argument_words spread p) ≡ []
  argument_none true p = rw (is.punct 12) (parens_none (plain_words p) (operand_none p))
  argument_none false p = operand_none p

  comma_none : (first : Bool) → found (comma_unless first) ≡ []
  comma_none true = refl
  comma_none false = rw (is.punct 7, is.gap (codes " ")) refl

  arguments_none : (first spread : Bool) (ps : List Plain) → found (arguments_words first spread ps) ≡ []
  arguments_none first spread [] = refl
  arguments_none first spread (p ∷ ps) =
      let last = spread && is_none ps in
      both_none (comma_unless first) (argument_words last p ++ arguments_words false spread ps) (comma_none first)
      (both_none (argument_words last p) (arguments_words false spread ps) (argument_none last p) (arguments_none false spread ps))

  part_found : (locals : List (List ℕ)) (args : List Plain) (p : Part) → found (part_words locals args p) ≡ found (named_part locals p)
  part_found locals args (part.Host name fields) = refl
  part_found locals args (part.Name name) = refl
  part_found locals args part.Exports = refl
  part_found locals args (part.Export name) = refl
  part_found locals args (part.Property name) = refl
  part_found locals args (part.Chained name) = refl
  part_found locals args (part.Member name) = refl
  part_found locals args (part.Literal text) = rw (is.text text) refl
  part_found locals args (part.Number value) = rw (is.num value) refl
  part_found locals args (part.Punct place) = rw (is.punct place) refl
  part_found locals args (part.Key place) = rw (is.key place) refl
  part_found locals args part.Space = rw (is.gap (codes " ")) refl
  part_found locals args part.LineFeed = rw (is.gap (codes "\n")) refl
  part_found locals args (part.Note text) = refl
  part_found locals args (part.Binding n) = refl
  part_found locals args (part.Local n) = rw (local (item_at [] locals n)) refl
  part_found locals args (part.Operand n) = guarded_none (item_at Missing args n)
  part_found locals args (part.Whole n) = operand_none (item_at Missing args n)
  part_found locals args (part.Arguments spread) = parens_none (arguments_words true spread args) (arguments_none true spread args)
  part_found locals args (part.OtherArguments spread) =
      parens_none (arguments_words true spread (below args)) (arguments_none true spread (below args))

  -- the words have the names that the parts bring along, and the locals that they declare
  pub parts_named : (locals : List (List ℕ)) (args : List Plain) (parts : List Part) → found (parts_words parts locals args) ≡ found (named_parts locals parts)
  parts_named locals args [] = refl
  parts_named locals args (p ∷ parts) =
      filter_map-append kind (part_words locals args p) (parts_words parts locals args)
      ∙ ap (λ (ns : List (List ℕ)). ns ++ found (parts_words parts locals args)) (part_found locals args p)
      ∙ ap (λ (ns : List (List ℕ)). found (named_part locals p) ++ ns) (parts_named locals args parts)
      ∙ sym (filter_map-append kind (named_part locals p) (named_parts locals parts))

  module _ (bound : (name : List ℕ) → kind (w.LocalBind name) ≡ None) where
    part_outer : (locals : List (List ℕ)) (p : Part) → found (named_part locals p) ≡ found (outer_part p)
    part_outer locals (part.Binding n) = rw (bound (item_at [] locals n)) refl
    part_outer locals other = refl

    parts_outer : (locals : List (List ℕ)) (parts : List Part) → found (named_parts locals parts) ≡ found (outer_parts parts)
    parts_outer locals [] = refl
    parts_outer locals (p ∷ parts) =
        filter_map-append kind (named_part locals p) (named_parts locals parts)
        ∙ ap (λ (ns : List (List ℕ)). ns ++ found (named_parts locals parts)) (part_outer locals p)
        ∙ ap (λ (ns : List (List ℕ)). found (outer_part p) ++ ns) (parts_outer locals parts)
        ∙ sym (filter_map-append kind (outer_part p) (outer_parts parts))

    -- where locals that are declared have none either, the names are those that the parts bring along
    pub parts_found : (locals : List (List ℕ)) (args : List Plain) (parts : List Part) → found (parts_words parts locals args) ≡ found (outer_parts parts)
    parts_found locals args parts = parts_named locals args parts ∙ parts_outer locals parts

-- ---- what parts bring along

-- no names of a kind that neither parts nor properties have
module _ (kind : Word → Option (List ℕ)) (none : (p : Part) → filter_map kind (outer_part p) ≡ []) where
  parts_none : (parts : List Part) → filter_map kind (outer_parts parts) ≡ []
  parts_none [] = refl
  parts_none (p ∷ parts) =
      filter_map-append kind (outer_part p) (outer_parts parts)
      ∙ ap (λ (ns : List (List ℕ)). ns ++ filter_map kind (outer_parts parts)) (none p)
      ∙ parts_none parts

part_binds : (p : Part) → local_bound_in (outer_part p) ≡ []
part_binds (part.Host name fields) = (path_tells fields).declares
part_binds (part.Property name) = (property_tells name).declares
part_binds (part.Chained name) = (chained_tells name).declares
part_binds other = refl

part_uses : (p : Part) → local_in (outer_part p) ≡ []
part_uses (part.Host name fields) = (path_tells fields).locals
part_uses (part.Property name) = (property_tells name).locals
part_uses (part.Chained name) = (chained_tells name).locals
part_uses other = refl

part_declares : (p : Part) → bound_in (outer_part p) ≡ []
part_declares (part.Host name fields) = (path_tells fields).binds
part_declares (part.Property name) = (property_tells name).binds
part_declares (part.Chained name) = (chained_tells name).binds
part_declares other = refl

-- they declare no names, and declare and use no locals
pub parts_declare : (parts : List Part) → bound_in (outer_parts parts) ≡ []
parts_declare = parts_none bound_name part_declares

pub parts_bind : (parts : List Part) → local_bound_in (outer_parts parts) ≡ []
parts_bind = parts_none local_bound_name part_binds

pub parts_use : (parts : List Part) → local_in (outer_parts parts) ≡ []
parts_use = parts_none local_name part_uses

-- nor do an expression and the statements before it
module _ (kind : Word → Option (List ℕ)) (none : (parts : List Part) → filter_map kind (outer_parts parts) ≡ []) (e : Expression) where
  pub expression_none : filter_map kind (outer_expression e) ≡ []
  expression_none =
      filter_map-append kind (outer_parts e.prelude) (outer_parts e.value)
      ∙ ap (λ (ns : List (List ℕ)). ns ++ filter_map kind (outer_parts e.value)) (none e.prelude)
      ∙ none e.value

-- the locals that the words of parts declare, by their places
place_declares : (locals : List (List ℕ)) (p : Part) (parts : List Part) → local_bound_in (named_parts locals parts) ≡ map (item_at [] locals) (bound_places parts)
    → local_bound_in (named_parts locals (p ∷ parts)) ≡ map (item_at [] locals) (bound_places (p ∷ parts))
place_declares locals (part.Binding n) parts h = ap (λ (ns : List (List ℕ)). item_at [] locals n ∷ ns) h
place_declares locals (part.Host name fields) parts h =
    filter_map-append local_bound_name (w.Host name false ∷ path_words fields) (named_parts locals parts)
    ∙ ap (λ (ns : List (List ℕ)). ns ++ local_bound_in (named_parts locals parts)) (part_binds (part.Host name fields)) ∙ h
place_declares locals (part.Property name) parts h =
    filter_map-append local_bound_name (property_parts name) (named_parts locals parts)
    ∙ ap (λ (ns : List (List ℕ)). ns ++ local_bound_in (named_parts locals parts)) (part_binds (part.Property name)) ∙ h
place_declares locals (part.Chained name) parts h =
    filter_map-append local_bound_name (chained_words name) (named_parts locals parts)
    ∙ ap (λ (ns : List (List ℕ)). ns ++ local_bound_in (named_parts locals parts)) (part_binds (part.Chained name)) ∙ h
place_declares locals other parts h = h

places_declare : (locals : List (List ℕ)) (parts : List Part) → local_bound_in (named_parts locals parts) ≡ map (item_at [] locals) (bound_places parts)
places_declare locals [] = refl
places_declare locals (p ∷ parts) = place_declares locals p parts (places_declare locals parts)

pub parts_places : (locals : List (List ℕ)) (args : List Plain) (parts : List Part)
    → local_bound_in (parts_words parts locals args) ≡ map (item_at [] locals) (bound_places parts)
parts_places locals args parts =
    parts_named local_bound_name local_bound_kind (λ n. refl) locals args parts ∙ places_declare locals parts
