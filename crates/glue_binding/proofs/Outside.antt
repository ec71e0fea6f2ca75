-- The names in the words of the function of any steps: those that the steps bring along, and its parameters and
-- temporaries.
use Rattle.std.proofs.Common.{◌≡◌, ℕ, ◌<◌, ◌≤◌, List, [], ◌∷◌, ◌++◌, length, map, refl, ap, sym, ◌∙◌, subst, true, false, ◌⊎◌, inl, inr, arith, append_assoc}
use Rattle.std.proofs.lemmas.Bool.{and_parts}
use Rattle.std.proofs.lemmas.Bool.Decides.{nat_tests}
use Rattle.std.proofs.lemmas.List.{append-nil}
use Rattle.std.proofs.lemmas.List.Elements.{filter_map-append}
use Rattle.std.specs.Prelude.{Option, Some, None, Bool, ◌&&◌, nat_lt, pos, codes}
use Rattle.std.specs.List.{list_all, filter_map, flat_map}
use Rattle.values.specs.Lists.{IsIn}
use Rattle.values.proofs.Members.{in_left, in_right}
use Rattle.glue_words.specs.declared.word.Word.{Word}
use Rattle.glue_words.specs.declared.word.Word.TheVariants as w
use Rattle.glue_words.specs.Names.{local_bound_name, local_name, local_bound_in, local_in}
use Rattle.glue_words.specs.Linking.{AreAmong}
use Rattle.glue_words.proofs.Among.{among_both, among_parts, among_itself}
use Rattle.glue_tree.specs.Term.{Export, Lines, NoLines}
use Rattle.glue_tree.specs.Plainly.{terms_of}
use Rattle.glue_tree.specs.Spelling.{comma_unless, is_none, const_start, function_words}
use Rattle.glue_tree.specs.FixedWords.{semicolon, const_word}
use Rattle.glue_words.specs.Functions.{parenthesised}
use Rattle.glue_imports.specs.declared.part.Part.{Part}
use Rattle.glue_imports.specs.declared.part.Part.TheVariants as part
use Rattle.glue_imports.specs.declared.part.Expression.{Expression}
use Rattle.glue_words.specs.Words.{space}
use Rattle.glue_tree.specs.Leaves.{leaves, leaves_of, line_leaves, lines_leaves, function_leaves}
use Rattle.glue_tree.proofs.Names.{IsKind, Has, function_names}
use Rattle.glue_tree.proofs.Functions.{local_kind, local_bound_kind}
use Rattle.glue_steps.specs.Stack.{top, below, item_at, last_of, operands, without}
use Rattle.glue_steps.specs.AdapterMeaning.{stack_mover, reading_method, writing_method}
use Rattle.glue_steps.specs.declared.step.Step.{Step}
use Rattle.glue_steps.specs.declared.step.Step.TheVariants.{Parameter, Unchanged, CallExport, CallImport, ToUnsigned, IsNotZero, ToUnsigned64, CallHelper, IndexFromBorrow, UnwrapResult, PassToMemory, DeferFree, CopyOut, ReturnPointer, LoadReturn, StoreReturn, MakeClosure, IndexOf, ItemAt}
use Rattle.glue_operands.specs.Spelling.{Plain, Missing, This, Local, Unsigned, NotZero, term_of, terms, is_comparison, word_if, plain_words, guarded_words, argument_words, arguments_words, part_words, parts_words, start_words, import_line_words}
use Rattle.glue_binding.specs.Spelling.{next_names, write_call, address_term, copy_call, load_call, store_call, closure_call, Piece, Ahead, Cleanup, ending, import_row, pieces_of, nested, tree_of, result_of, counted, wanted_from, temporaries}
use Rattle.glue_operands.specs.Form.{first_if, parameters_of}
use Rattle.glue_operands.specs.declared.form.Form.{Form}
use Rattle.glue_operands.proofs.Each.{Each, each_by, each_there, each_item, each_below}
use Rattle.glue_binding.proofs.Coming.{next_count, next_rest, first_enough, left_exact}
use Rattle.glue_operands.proofs.Standing.{part_good, expression_fits, step_fit, fitting, fitting_good, steps_each, prelude_places, value_places}
use Rattle.glue_binding.proofs.Rowwise.{IsRowwise, AllHave, pieces_have}
use Rattle.glue_operands.proofs.Parts.{outer_part, outer_parts, outer_expression, expression_none, parts_use, parts_places}
use Rattle.glue_binding.proofs.Outer.{IsOuter, plain_none, terms_none}

-- the words of exports, and those of the test whether a value is absent, where there is one
abbrev pub exports_words : List (List ℕ) → List Word
exports_words names = leaves_of (terms_of (map Export names))

abbrev pub absent_words : (optional : Bool) → List Word
absent_words false = []
absent_words true = w.Refer (codes "isLikeNone") false ∷ []

-- the words from outside that the text of a step holds
abbrev pub outside_words : Step → List Word
outside_words (CallExport name n has_result) = w.Refer (codes "wasm") false ∷ w.Wasm name ∷ []
outside_words (CallImport adapter n has_result e) = outer_expression e
outside_words ToUnsigned64 = w.Host (codes "BigInt") false ∷ w.Prop (codes "asUintN") ∷ []
outside_words (CallHelper helper n) = w.Refer helper false ∷ []
outside_words IndexFromBorrow =
    w.Refer (codes "addBorrowedObject") false ∷ w.Refer (codes "heap") false ∷ w.Refer (codes "stack_pointer") false
    ∷ w.Host (codes "undefined") false ∷ []
outside_words (UnwrapResult helper) = w.Refer helper false ∷ []
outside_words (PassToMemory helper exports optional) =
    absent_words optional ++ (w.Refer helper false ∷ w.Refer (codes "WASM_VECTOR_LEN") false ∷ exports_words exports)
outside_words (DeferFree free align) = w.Refer (codes "wasm") false ∷ w.Wasm free ∷ []
outside_words (CopyOut helper) = w.Refer helper false ∷ w.Prop (codes "slice") ∷ []
outside_words (ReturnPointer size) = w.Refer (codes "wasm") false ∷ w.Wasm stack_mover ∷ []
outside_words (LoadReturn view offset is_wide) = w.Refer view false ∷ w.Prop (reading_method is_wide) ∷ []
outside_words (StoreReturn view offset is_wide) = w.Refer view false ∷ w.Prop (writing_method is_wide) ∷ []
outside_words (MakeClosure helper function) = w.Refer helper false ∷ w.Refer function false ∷ []
outside_words (IndexOf list) = w.Refer list false ∷ w.Prop (codes "indexOf") ∷ []
outside_words (ItemAt list) = w.Refer list false ∷ []
outside_words other = []

-- those of steps, in order
abbrev pub outside_of : List Step → List Word
outside_of steps = flat_map outside_words steps

-- a number below a count is below an equal one
in_range : (n count size : ℕ) → nat_lt n count ≡ true → size ≡ count → n < size
in_range n count size h same = grind (arith, nat_tests)

module _ (kind : Word → Option (List ℕ)) (is : IsKind kind) where
  module _ (ys : List (List ℕ)) where
    -- the names of the words are among those of a list
    record Holds (words : List Word) : Type 0 where
      pub among : AreAmong (filter_map kind words) ys

    none : Holds []
    none = record { among = tt }

    merge : {xs zs : List Word} → Holds xs → Holds zs → Holds (xs ++ zs)
    merge {xs} {zs} h k = record {
      among = subst (λ (ns : List (List ℕ)). AreAmong ns ys) (sym (filter_map-append kind xs zs))
          (among_both (filter_map kind xs) (filter_map kind zs) ys h.among k.among);
    }

    split : (xs zs : List Word) → Holds (xs ++ zs) → Holds xs × Holds zs
    split xs zs h =
        let parts = among_parts (filter_map kind xs) (filter_map kind zs) ys
        (subst (λ (ns : List (List ℕ)). AreAmong ns ys) (filter_map-append kind xs zs) h.among) in
        (record { among = parts.0 }, record { among = parts.1 })

    -- the local of an operand
    abbrev OfPlain : Plain → Type 0
    OfPlain Missing = Unit {0}
    OfPlain This = Unit {0}
    OfPlain (Local name) = Holds (w.Local name ∷ [])
    OfPlain (Unsigned p) = OfPlain p
    OfPlain (NotZero p) = OfPlain p

    plain_holds : (p : Plain) → OfPlain p → Holds (leaves (term_of p))
    plain_holds Missing h = none
    plain_holds This h = none
    plain_holds (Local name) h = h
    plain_holds (Unsigned p) h = merge (plain_holds p h) none
    plain_holds (NotZero p) h = merge (plain_holds p h) none

    terms_hold : (ps : List Plain) → Each OfPlain ps → Holds (leaves_of (terms ps))
    terms_hold [] h = none
    terms_hold (p ∷ ps) h = merge (plain_holds p h.0) (terms_hold ps h.1)

    -- a name, where it is declared and where it is used
    record OfName (x : List ℕ) : Type 0 where
      pub declared : Holds (w.LocalBind x ∷ [])
      pub used : Holds (w.Local x ∷ [])

    -- a word of punctuation, and a space
    mark : (place : ℕ) → Holds (w.Punct place ∷ [])
    mark place = record { among = rw (is.punct place) tt }

    gap : Holds (space ∷ [])
    gap = record { among = rw (is.gap (codes " ")) tt }

    -- `const x = `
    start_holds : (x : List ℕ) → OfName x → Holds (const_start x)
    start_holds x d =
        let word : Holds (const_word ∷ []) = record { among = rw (is.key 8) tt } in
        merge word (merge gap (merge d.declared (merge gap (merge (mark 14) gap))))

    parens_hold : {words : List Word} → Holds words → Holds (parenthesised words)
    parens_hold h = merge (mark 2) (merge h (mark 3))

    -- a word of punctuation, where it stands, and the number 0
    mark_if : (b : Bool) (place : ℕ) → Holds (word_if b (w.Punct place))
    mark_if true place = mark place
    mark_if false place = none

    zero : Holds (w.Num (pos 0) ∷ [])
    zero = record { among = rw (is.num (pos 0)) tt }

    -- operands of an import, in parentheses or not, and as arguments
    operand_holds : (p : Plain) → OfPlain p → Holds (plain_words p)
    operand_holds Missing h = record { among = rw (is.key 27) tt }
    operand_holds This h = record { among = rw (is.key 35) tt }
    operand_holds (Local name) h = h
    operand_holds (Unsigned p) h =
        merge (mark_if (is_comparison p) 2) (merge (operand_holds p h) (merge (mark_if (is_comparison p) 3) (merge gap (merge (mark 38) (merge gap zero)))))
    operand_holds (NotZero p) h = merge (operand_holds p h) (merge gap (merge (mark 18) (merge gap zero)))

    guarded_holds : (p : Plain) → OfPlain p → Holds (guarded_words p)
    guarded_holds Missing h = operand_holds Missing h
    guarded_holds This h = operand_holds This h
    guarded_holds (Local name) h = operand_holds (Local name) h
    guarded_holds (Unsigned p) h = parens_hold (operand_holds (Unsigned p) h)
    guarded_holds (NotZero p) h = parens_hold (operand_holds (NotZero p) h)

    argument_holds : (spread : Bool) (p : Plain) → OfPlain p → Holds (argument_words spread p)
    argument_holds true p h = merge (mark 12) (parens_hold (operand_holds p h))
    argument_holds false p h = operand_holds p h

    comma_holds : (first : Bool) → Holds (comma_unless first)
    comma_holds true = none
    comma_holds false = merge (mark 7) gap

    arguments_hold : (first spread : Bool) (ps : List Plain) → Each OfPlain ps → Holds (arguments_words first spread ps)
    arguments_hold first spread [] h = none
    arguments_hold first spread (p ∷ ps) h = merge (comma_holds first)
        (merge (argument_holds (spread && is_none ps) p h.0) (arguments_hold false spread ps h.1))

    -- the local of a part
    abbrev OfPart : (locals : List (List ℕ)) → Part → Type 0
    OfPart locals (part.Binding n) = OfName (item_at [] locals n)
    OfPart locals (part.Local n) = OfName (item_at [] locals n)
    OfPart locals other = Unit {0}

    part_holds : (locals : List (List ℕ)) (args : List Plain) → Each OfPlain args → (p : Part) → OfPart locals p → Holds (outer_part p)
        → Holds (part_words locals args p)
    part_holds locals args h (part.Host name fields) o f = f
    part_holds locals args h (part.Name name) o f = f
    part_holds locals args h part.Exports o f = f
    part_holds locals args h (part.Export name) o f = f
    part_holds locals args h (part.Property name) o f = f
    part_holds locals args h (part.Chained name) o f = f
    part_holds locals args h (part.Member name) o f = f
    part_holds locals args h (part.Literal text) o f = record { among = rw (is.text text) tt }
    part_holds locals args h (part.Number value) o f = record { among = rw (is.num value) tt }
    part_holds locals args h (part.Punct place) o f = mark place
    part_holds locals args h (part.Key place) o f = record { among = rw (is.key place) tt }
    part_holds locals args h part.Space o f = gap
    part_holds locals args h part.LineFeed o f = record { among = rw (is.gap (codes "\n")) tt }
    part_holds locals args h (part.Note text) o f = f
    part_holds locals args h (part.Binding n) o f = o.declared
    part_holds locals args h (part.Local n) o f = o.used
    part_holds locals args h (part.Operand n) o f = guarded_holds (item_at Missing args n) (each_item OfPlain Missing tt args n h)
    part_holds locals args h (part.Whole n) o f = operand_holds (item_at Missing args n) (each_item OfPlain Missing tt args n h)
    part_holds locals args h (part.Arguments spread) o f = parens_hold (arguments_hold true spread args h)
    part_holds locals args h (part.OtherArguments spread) o f =
        parens_hold (arguments_hold true spread (below args) (each_below OfPlain Missing tt args h))

    parts_hold : (locals : List (List ℕ)) (args : List Plain) → Each OfPlain args → (parts : List Part) → Each (OfPart locals) parts
        → Holds (outer_parts parts) → Holds (parts_words parts locals args)
    parts_hold locals args h [] o f = none
    parts_hold locals args h (p ∷ parts) o f =
        let both = split (outer_part p) (outer_parts parts) f in
        merge (part_holds locals args h p o.0 both.0) (parts_hold locals args h parts o.1 both.1)

    -- the local of each part, where each that is counted has it
    counted_part : (count : ℕ) (locals : List (List ℕ)) → ((n : ℕ) → nat_lt n count ≡ true → OfName (item_at [] locals n)) → (p : Part)
        → part_good count p ≡ true → OfPart locals p
    counted_part count locals o (part.Binding n) h = o n h
    counted_part count locals o (part.Local n) h = o n h
    counted_part count locals o other h = tt

    counted_parts : (count : ℕ) (locals : List (List ℕ)) → ((n : ℕ) → nat_lt n count ≡ true → OfName (item_at [] locals n)) → (parts : List Part)
        → list_all (part_good count) parts ≡ true → Each (OfPart locals) parts
    counted_parts count locals o [] h = tt
    counted_parts count locals o (p ∷ parts) h =
        let both = and_parts (part_good count p) (list_all (part_good count) parts) h in
        (counted_part count locals o p both.0, counted_parts count locals o parts both.1)

    -- or where any name has it
    any_part : (locals : List (List ℕ)) → ((x : List ℕ) → OfName x) → (p : Part) → OfPart locals p
    any_part locals o (part.Binding n) = o (item_at [] locals n)
    any_part locals o (part.Local n) = o (item_at [] locals n)
    any_part locals o other = tt

    any_parts : (locals : List (List ℕ)) → ((x : List ℕ) → OfName x) → (parts : List Part) → Each (OfPart locals) parts
    any_parts locals o [] = tt
    any_parts locals o (p ∷ parts) = (any_part locals o p, any_parts locals o parts)

    -- any name has it, or the texts of steps fit
    abbrev Known : Step → Type 0
    Known s = ((x : List ℕ) → OfName x) ⊎ (step_fit s ≡ true)

    record OfParts (e : Expression) (locals : List (List ℕ)) : Type 0 where
      above : Each (OfPart locals) e.prelude
      value : Each (OfPart locals) e.value

    known_parts : (adapter n : ℕ) (has_result : Bool) (e : Expression) (locals : List (List ℕ)) → length locals ≡ length e.locals
        → Each OfName locals → Known (CallImport adapter n has_result e) → OfParts e locals
    known_parts adapter n has_result e locals same l (inl o) =
        record { above = any_parts locals o e.prelude; value = any_parts locals o e.value }
    known_parts adapter n has_result e locals same l (inr fit) =
        let good = fitting_good e (fitting e fit) in
        let count = length e.locals in
        let there : (n : ℕ) → nat_lt n count ≡ true → OfName (item_at [] locals n) = λ n h.
        each_there OfName [] locals n (in_range n count (length locals) h same) l in
        record { above = counted_parts count locals there e.prelude good.0; value = counted_parts count locals there e.value good.1 }

    -- the statements before a value, and words behind them
    above_holds : (e : Expression) (locals : List (List ℕ)) (args : List Plain) → OfParts e locals → Holds (outer_expression e) → Each OfPlain args
        → (start : List Word) → Holds start → Holds (parts_words e.prelude locals args ++ (start ++ (parts_words e.value locals args ++ semicolon ∷ [])))
    above_holds e locals args o f h start k =
        let both = split (outer_parts e.prelude) (outer_parts e.value) f in
        merge (parts_hold locals args h e.prelude o.above both.0) (merge k (merge (parts_hold locals args h e.value o.value both.1) (mark 8)))

    -- the words of what writes a value to memory
    record OfPassed (helper : List ℕ) (exports : List (List ℕ)) (optional : Bool) : Type 0 where
      absent : Holds (absent_words optional)
      named : Holds (w.Refer helper false ∷ [])
      length : Holds (w.Refer (codes "WASM_VECTOR_LEN") false ∷ [])
      taken : Holds (exports_words exports)

    of_passed : (helper : List ℕ) (exports : List (List ℕ)) (optional : Bool) → Holds (outside_words (PassToMemory helper exports optional))
        → OfPassed helper exports optional
    of_passed helper exports optional f =
        let length = w.Refer (codes "WASM_VECTOR_LEN") false ∷ [] in
        let a = split (absent_words optional) (w.Refer helper false ∷ (length ++ exports_words exports)) f in
        let b = split (w.Refer helper false ∷ []) (length ++ exports_words exports) a.1 in
        let c = split length (exports_words exports) b.1 in
        record { absent = a.0; named = b.0; length = c.0; taken = c.1 }

    write_holds : (helper : List ℕ) (exports : List (List ℕ)) (optional : Bool) → OfPassed helper exports optional → (p : Plain) → OfPlain p
        → Holds (leaves (write_call helper exports p))
    write_holds helper exports optional o p h = merge o.named (merge (plain_holds p h) o.taken)

    address_holds : (helper : List ℕ) (exports : List (List ℕ)) (optional : Bool) → OfPassed helper exports optional → (p : Plain) → OfPlain p
        → Holds (leaves (address_term optional helper exports p))
    address_holds helper exports false o p h = write_holds helper exports false o p h
    address_holds helper exports true o p h = merge (merge o.absent (terms_hold (p ∷ []) (h, tt))) (write_holds helper exports true o p h)

    copy_holds : (helper : List ℕ) → Holds (outside_words (CopyOut helper)) → (args : List Plain) → Each OfPlain args → Holds (leaves (copy_call helper args))
    copy_holds helper f args h =
        let both = split (w.Refer helper false ∷ []) (w.Prop (codes "slice") ∷ []) f in
        merge (merge (merge both.0 (terms_hold args h)) both.1) none

    closure_holds : (helper function : List ℕ) → Holds (outside_words (MakeClosure helper function)) → (p q : Plain) → OfPlain p → OfPlain q
        → Holds (leaves (closure_call helper function (p ∷ q ∷ [])))
    closure_holds helper function f p q h k =
        let both = split (w.Refer helper false ∷ []) (w.Refer function false ∷ []) f in
        merge both.0 (merge (plain_holds p h) (merge (plain_holds q k) both.1))

    held : IsRowwise (λ l. Holds (line_leaves l)) OfPlain OfName (λ s. Holds (outside_words s) × Known s)
    held = record {
      missing = tt;
      local = λ x h. h.used;
      unsigned = λ p h. h;
      not_zero = λ p h. h;
      ends = λ p h. plain_holds p h;
      export_runs = λ name n f args h. merge f.0 (terms_hold args h);
      export_binds = λ name n f x d args h. merge d.declared (merge f.0 (terms_hold args h));
      import_runs = λ adapter n e f locals c l args h.
          above_holds e locals args (known_parts adapter n false e locals c l f.1) f.0 h [] none;
      import_binds = λ adapter n e f locals c l x d args h.
          above_holds e locals args (known_parts adapter n true e locals c l f.1) f.0 h (const_start x) (start_holds x d);
      reads = λ f x d p h. merge d.declared (merge f.0 (terms_hold (p ∷ []) (h, tt)));
      calls = λ helper n f x d args h. merge d.declared (merge f.0 (terms_hold args h));
      borrows = λ f x d p h. merge d.declared (merge (split (w.Refer (codes "addBorrowedObject") false ∷ []) _ f.0).0
          (terms_hold (p ∷ []) (h, tt)));
      gives_back = λ f. (split (w.Refer (codes "addBorrowedObject") false ∷ []) _ f.0).1;
      throws = λ helper f p q h k. merge (plain_holds p h) (merge (merge f.0 (terms_hold (q ∷ []) (k, tt))) none);
      writes = λ helper exports optional f x d p h. merge d.declared (address_holds helper exports optional (of_passed helper exports optional f.0) p h);
      lengths = λ helper exports optional f x d. merge d.declared (of_passed helper exports optional f.0).length;
      frees = λ free align f p q h k. merge f.0 (terms_hold (p ∷ q ∷ []) (h, (k, tt)));
      copies = λ helper f x d args h. merge d.declared (copy_holds helper f.0 args h);
      takes_room = λ size f x d. merge d.declared f.0;
      gives_room_back = λ size f. f.0;
      loads = λ view offset is_wide f x d p h. merge d.declared (merge f.0 (merge (merge (plain_holds p h) none) none));
      stores = λ view offset is_wide f p q h k. merge f.0 (merge (merge (plain_holds p h) none) (merge (plain_holds q k) none));
      makes = λ helper function f x d p q h k. merge d.declared (closure_holds helper function f.0 p q h k);
      finds = λ list f x d p h. merge d.declared (merge f.0 (terms_hold (p ∷ []) (h, tt)));
      picks = λ list f x d p h. merge d.declared (merge f.0 (plain_holds p h));
    }

    nested_holds : (pieces : List Piece) (rest : Lines) → AllHave (λ l. Holds (line_leaves l)) pieces
        → Holds (lines_leaves rest) → Holds (lines_leaves (nested pieces rest))
    nested_holds [] rest h k = k
    nested_holds (Ahead l ∷ pieces) rest h k = merge h.0 (nested_holds pieces rest h.1 k)
    nested_holds (Cleanup l ∷ pieces) rest h k = merge (merge (nested_holds pieces rest h.1 k) (merge h.0 none)) none

    params_hold : (names : List (List ℕ)) → Each OfName names → Holds (map w.LocalBind names)
    params_hold [] h = none
    params_hold (name ∷ names) h = merge h.0.declared (params_hold names h.1)

    locals_plain : (names : List (List ℕ)) → Each OfName names → Each OfPlain (map Local names)
    locals_plain [] h = tt
    locals_plain (name ∷ names) h = (h.0.used, locals_plain names h.1)

    params_plain : (form : Form) (names : List (List ℕ)) → Each OfName names → Each OfPlain (parameters_of form names)
    params_plain form names h = by form.takes_this
      where
        by : (takes_this : Bool) → Each OfPlain (first_if takes_this This (map Local names))
        by true = (tt, locals_plain names h)
        by false = locals_plain names h

    steps_hold : (steps : List Step) → Holds (outside_of steps) → Each Known steps → Each (λ s. Holds (outside_words s) × Known s) steps
    steps_hold [] h k = tt
    steps_hold (s ∷ steps) h k = let parts = split (outside_words s) (outside_of steps) h in
        ((parts.0, k.0), steps_hold steps parts.1 k.1)

    function_holds : (form : Form) (steps : List Step) (params temps : List (List ℕ)) → length (temporaries steps) ≤ length temps
        → Holds (outside_of steps) → Each Known steps → Each OfName params → Each OfName temps
        → AreAmong (filter_map kind (function_words params (tree_of steps (parameters_of form params) temps))) ys
    function_holds form steps params temps le f k p m =
        let tree = tree_of steps (parameters_of form params) temps in
        let has : Has kind is (function_words params tree)
        (function_leaves params tree) = function_names kind is params tree in
        let leaves_hold : Holds (lines_leaves tree) =
        nested_holds (pieces_of steps (parameters_of form params) [] temps) NoLines
        (pieces_have held steps (parameters_of form params) [] temps 0 (steps_hold steps f k) le
        (params_plain form params p) tt m) none in
        let all : Holds (function_leaves params tree) = merge (params_hold params p) leaves_hold in
        subst (λ (ns : List (List ℕ)). AreAmong ns ys) (sym has.same) all.among

-- names of a kind from outside are among those that the steps bring along
pub outside_among : (kind : Word → Option (List ℕ)) → IsOuter kind → (form : Form) (steps : List Step) (params temps : List (List ℕ))
    → length (temporaries steps) ≤ length temps → AreAmong
    (filter_map kind (function_words params (tree_of steps (parameters_of form params) temps))) (filter_map kind (outside_of steps))
outside_among kind outer form steps params temps le =
    let ys = filter_map kind (outside_of steps) in
    let name : (x : List ℕ) → OfName kind outer.is ys x =
    λ x. record {
      declared = record { among = rw (outer.bound x) tt };
      used = record {
        among = rw
            (outer.local x) tt;
      };
    } in
    function_holds kind outer.is ys form steps params temps le (record { among = among_itself ys })
    (each_by (Known kind outer.is ys) steps (λ s at. inl name))
    (each_by (OfName kind outer.is ys) params (λ x at. name x))
    (each_by (OfName kind outer.is ys) temps (λ x at. name x))

-- ---- names of which what writes a value to memory has none

exports_none : (kind : Word → Option (List ℕ)) → ((name : List ℕ) → kind (w.Refer name false) ≡ None) → ((name : List ℕ) → kind (w.Wasm name) ≡ None)
    → (names : List (List ℕ)) → filter_map kind (exports_words names) ≡ []
exports_none kind h k [] = refl
exports_none kind h k (name ∷ names) = rw (h (codes "wasm"), k name) (exports_none kind h k names)

pub passed_none : (kind : Word → Option (List ℕ)) → ((name : List ℕ) → kind (w.Refer name false) ≡ None)
    → ((name : List ℕ) → kind (w.Wasm name) ≡ None) → (helper : List ℕ) (exports : List (List ℕ)) (optional : Bool)
    → filter_map kind (outside_words (PassToMemory helper exports optional)) ≡ []
passed_none kind h k helper exports false = rw (h helper, h (codes "WASM_VECTOR_LEN")) (exports_none kind h k exports)
passed_none kind h k helper exports true =
    rw (h (codes "isLikeNone"), h helper, h (codes "WASM_VECTOR_LEN")) (exports_none kind h k exports)

-- ---- locals

outside_local : (s : Step) → local_in (outside_words s) ≡ []
outside_local (CallImport adapter n has_result e) = expression_none local_name parts_use e
outside_local (PassToMemory helper exports optional) = passed_none local_name (λ n. refl) (λ n. refl) helper exports optional
outside_local other = refl

steps_local : (steps : List Step) → local_in (outside_of steps) ≡ []
steps_local [] = refl
steps_local (s ∷ steps) =
    filter_map-append local_name (outside_words s) (outside_of steps)
    ∙ ap (λ (ns : List (List ℕ)). ns ++ local_in (outside_of steps)) (outside_local s)
    ∙ steps_local steps

-- the locals that are used are parameters and temporaries
pub locals_among : (form : Form) (steps : List Step) (params temps : List (List ℕ)) → list_all step_fit steps ≡ true → length (temporaries steps) ≤ length temps
    → AreAmong (local_in (function_words params (tree_of steps (parameters_of form params) temps))) (params ++ temps)
locals_among form steps params temps fit le =
    let ys = params ++ temps in
    let name : (x : List ℕ) → IsIn x ys → OfName local_name local_kind ys x =
    λ x at. record { declared = record { among = tt }; used = record { among = (at, tt) } } in
    function_holds local_name local_kind ys form steps params temps le
    (record { among = subst (λ (ns : List (List ℕ)). AreAmong ns ys) (sym (steps_local steps)) tt })
    (fits_known steps (steps_each steps fit))
    (each_by (OfName local_name local_kind ys) params (λ x at. name x (in_left x params temps at)))
    (each_by (OfName local_name local_kind ys) temps (λ x at. name x (in_right x params temps at)))
  where
    fits_known : (steps : List Step) → Each (λ s. step_fit s ≡ true) steps → Each (Known local_name local_kind (params ++ temps)) steps
    fits_known [] h = tt
    fits_known (s ∷ steps) h = (inr h.0, fits_known steps h.1)

-- the locals that pieces declare, in the order of their statements
abbrev declared_in : List Piece → List (List ℕ)
declared_in [] = []
declared_in (Ahead l ∷ pieces) = local_bound_in (line_leaves l) ++ declared_in pieces
declared_in (Cleanup l ∷ pieces) = declared_in pieces ++ local_bound_in (line_leaves l)

two_declared : (xs ys : List Word) → local_bound_in (xs ++ ys) ≡ local_bound_in xs ++ local_bound_in ys
two_declared xs ys = filter_map-append local_bound_name xs ys

nested_declared : (pieces : List Piece) → local_bound_in (lines_leaves (nested pieces NoLines)) ≡ declared_in pieces
nested_declared [] = refl
nested_declared (Ahead l ∷ pieces) =
    two_declared (line_leaves l) (lines_leaves (nested pieces NoLines))
    ∙ ap (λ (ns : List (List ℕ)). local_bound_in (line_leaves l) ++ ns) (nested_declared pieces)
nested_declared (Cleanup l ∷ pieces) =
    let inside = lines_leaves (nested pieces NoLines) in
    ap local_bound_in (append-nil (inside ++ (line_leaves l ++ [])))
    ∙ two_declared inside (line_leaves l ++ [])
    ∙ ap (λ (ns : List (List ℕ)). ns ++ local_bound_in (line_leaves l ++ [])) (nested_declared pieces)
    ∙ ap (λ (ws : List Word). declared_in pieces ++ local_bound_in ws) (append-nil (line_leaves l))

terms_declare : (ps : List Plain) → local_bound_in (leaves_of (terms ps)) ≡ []
terms_declare ps = terms_none local_bound_name (λ n. refl) ps

none_declared : (xs ys : List Word) → local_bound_in xs ≡ [] → local_bound_in ys ≡ [] → local_bound_in (xs ++ ys) ≡ []
none_declared xs ys h k = two_declared xs ys ∙ ap (λ (ns : List (List ℕ)). ns ++ local_bound_in ys) h ∙ k

-- the local that the answer of an import is bound to
abbrev bound_local : Option (List ℕ) → List (List ℕ)
bound_local None = []
bound_local (Some x) = x ∷ []

start_declares : (bound : Option (List ℕ)) → local_bound_in (start_words bound) ≡ bound_local bound
start_declares None = refl
start_declares (Some x) = refl

-- the statements of an expression that fits declare its locals, and then the one that its answer is bound to
line_declares : (e : Expression) → expression_fits e ≡ true → (bound : Option (List ℕ)) (locals : List (List ℕ)) → length locals ≡ length e.locals
    → (args : List Plain) → local_bound_in (import_line_words bound e locals args) ≡ locals ++ bound_local bound
line_declares e fit bound locals same args =
    let f = fitting e fit in
    let above = parts_words e.prelude locals args in
    let value = parts_words e.value locals args in
    let start = start_words bound in
    two_declared above (start ++ (value ++ semicolon ∷ []))
    ∙ ap (λ (ns : List (List ℕ)). ns ++ local_bound_in (start ++ (value ++ semicolon ∷ [])))
    (parts_places locals args e.prelude ∙ prelude_places e f locals same)
    ∙ ap (λ (ns : List (List ℕ)). locals ++ ns) (two_declared start (value ++ semicolon ∷ [])
    ∙ ap (λ (ns : List (List ℕ)). ns ++ local_bound_in (value ++ semicolon ∷ [])) (start_declares bound)
    ∙ ap (λ (ns : List (List ℕ)). bound_local bound ++ ns) (none_declared value (semicolon ∷ [])
    (parts_places locals args e.value ∙ value_places e f locals) refl)
    ∙ append-nil (bound_local bound))

-- a call of an import declares its locals, and the pieces behind it the others
called_declares : (adapter n : ℕ) (has_result : Bool) (e : Expression) → expression_fits e ≡ true → (locals : List (List ℕ))
    → length locals ≡ length e.locals → (stack : List Plain) (names rest : List (List ℕ)) (pieces : List Plain → List (List ℕ) → List Piece)
    → length (result_of has_result ++ rest) ≡ length names
    → ((stack : List Plain) (names : List (List ℕ)) → length rest ≡ length names → declared_in (pieces stack names) ≡ names)
    → declared_in ((import_row adapter n has_result e locals stack names).pieces
    ++ pieces (import_row adapter n has_result e locals stack names).stack (import_row adapter n has_result e locals stack names).names)
    ≡ locals ++ names
called_declares adapter n true e fit locals same stack [] rest pieces c next = absurd (omega (arith, c))
called_declares adapter n true e fit locals same stack (x ∷ names) rest pieces c next =
    ap (λ (ns : List (List ℕ)). ns ++ declared_in (pieces (Local x ∷ without n stack) names))
    (line_declares e fit (Some x) locals same (operands Missing n stack []))
    ∙ append_assoc locals (x ∷ []) (declared_in (pieces (Local x ∷ without n stack) names))
    ∙ ap (λ (ns : List (List ℕ)). locals ++ x ∷ ns) (next (Local x ∷ without n stack) names (omega (arith, c)))
called_declares adapter n false e fit locals same stack names rest pieces c next =
    ap (λ (ns : List (List ℕ)). ns ++ declared_in (pieces (without n stack) names))
    (line_declares e fit None locals same (operands Missing n stack []) ∙ append-nil locals)
    ∙ ap (λ (ns : List (List ℕ)). locals ++ ns) (next (without n stack) names c)

-- after words that declare nothing
after_none : (xs : List Word) (ns ms : List (List ℕ)) → local_bound_in xs ≡ [] → ns ≡ ms → local_bound_in xs ++ ns ≡ ms
after_none xs ns ms h e = ap (λ (ks : List (List ℕ)). ks ++ ns) h ∙ e

-- what is written to memory, and what is copied, declares nothing
write_declares : (helper : List ℕ) (exports : List (List ℕ)) (p : Plain) → local_bound_in (leaves (write_call helper exports p)) ≡ []
write_declares helper exports p = none_declared (leaves (term_of p)) (exports_words exports) (plain_none local_bound_name (λ n. refl) p)
    (exports_none local_bound_name (λ n. refl) (λ n. refl) exports)

address_declares : (optional : Bool) (helper : List ℕ) (exports : List (List ℕ)) (p : Plain)
    → local_bound_in (leaves (address_term optional helper exports p)) ≡ []
address_declares false helper exports p = write_declares helper exports p
address_declares true helper exports p = none_declared (leaves_of (terms (p ∷ []))) (leaves (write_call helper exports p))
    (terms_declare (p ∷ [])) (write_declares helper exports p)

copy_declares : (helper : List ℕ) (args : List Plain) → local_bound_in (leaves (copy_call helper args)) ≡ []
copy_declares helper args =
    ap local_bound_in (append-nil (leaves_of (terms args) ++ w.Prop (codes "slice") ∷ []))
    ∙ none_declared (leaves_of (terms args)) (w.Prop (codes "slice") ∷ []) (terms_declare args) refl

-- so is what is read from room for results, and written there
place_declares : (p : Plain) (rest : List Word) → local_bound_in rest ≡ [] → local_bound_in ((leaves (term_of p) ++ []) ++ rest) ≡ []
place_declares p rest h = none_declared (leaves (term_of p) ++ []) rest
    (none_declared (leaves (term_of p)) [] (plain_none local_bound_name (λ n. refl) p) refl) h

load_declares : (view : List ℕ) (offset : ℕ) (is_wide : Bool) (p : Plain) → local_bound_in (leaves (load_call view offset is_wide p)) ≡ []
load_declares view offset is_wide p = place_declares p [] refl

store_declares : (view : List ℕ) (offset : ℕ) (is_wide : Bool) (p q : Plain)
    → local_bound_in (leaves (store_call view offset is_wide p q)) ≡ []
store_declares view offset is_wide p q = place_declares p (leaves (term_of q) ++ [])
    (none_declared (leaves (term_of q)) [] (plain_none local_bound_name (λ n. refl) q) refl)

-- nor does what a helper makes a closure by
closure_declares : (helper function : List ℕ) (p q : Plain) → local_bound_in (leaves (closure_call helper function (p ∷ q ∷ []))) ≡ []
closure_declares helper function p q =
    none_declared (leaves (term_of p)) (leaves (term_of q) ++ w.Refer function false ∷ []) (plain_none local_bound_name (λ n. refl) p)
    (none_declared (leaves (term_of q)) (w.Refer function false ∷ []) (plain_none local_bound_name (λ n. refl) q) refl)

ending_declares : (stack : List Plain) → declared_in (ending stack) ≡ []
ending_declares [] = refl
ending_declares (p ∷ stack) = after_none (leaves (term_of p)) [] [] (plain_none local_bound_name (λ n. refl) p) refl

-- the statements declare the temporaries, in order: a line or two a step
pieces_declare : (steps : List Step) (params stack : List Plain) (names : List (List ℕ)) (count : ℕ) → Each (λ s. step_fit s ≡ true) steps
    → length (wanted_from count steps) ≡ length names → declared_in (pieces_of steps params stack names) ≡ names
pieces_declare [] params stack [] count g e = ending_declares stack
pieces_declare [] params stack (x ∷ names) count g e = absurd (omega (arith, e))
pieces_declare (Parameter n ∷ steps) params stack names count g e = pieces_declare steps params _ names count g.1 e
pieces_declare (Unchanged ∷ steps) params stack names count g e = pieces_declare steps params _ names count g.1 e
pieces_declare (CallExport name n true ∷ steps) params stack [] count g e = absurd (omega (arith, e))
pieces_declare (CallExport name n true ∷ steps) params stack (x ∷ names) count g e =
    ap (λ (ns : List (List ℕ)). x ∷ ns) (after_none (leaves_of (terms (operands Missing n stack []))) _ names
    (terms_declare (operands Missing n stack [])) (pieces_declare steps params _ names count g.1 (omega (arith, e))))
pieces_declare (CallExport name n false ∷ steps) params stack names count g e =
    after_none (leaves_of (terms (operands Missing n stack []))) _ names (terms_declare (operands Missing n stack []))
    (pieces_declare steps params _ names count g.1 e)
pieces_declare (CallImport adapter n has_result e ∷ steps) params stack names count g c =
    let k = length e.locals in
    let rest = wanted_from count steps in
    let wanted : length (e.locals ++ (result_of has_result ++ rest)) ≡ length names =
    subst (λ (ws : List (List ℕ)). length ws ≡ length names) (append_assoc e.locals (result_of has_result) rest) c in
    called_declares adapter n has_result e g.0 (next_names k names) (next_count k names) stack (without k names) rest (pieces_of steps params)
    (left_exact e.locals (result_of has_result ++ rest) names wanted)
    (λ stack names c. pieces_declare steps params stack names count g.1 c)
    ∙ next_rest k names (first_enough e.locals (result_of has_result ++ rest) names (omega (arith, wanted)))
pieces_declare (ToUnsigned ∷ steps) params stack names count g e = pieces_declare steps params _ names count g.1 e
pieces_declare (IsNotZero ∷ steps) params stack names count g e = pieces_declare steps params _ names count g.1 e
pieces_declare (ToUnsigned64 ∷ steps) params stack [] count g e = absurd (omega (arith, e))
pieces_declare (ToUnsigned64 ∷ steps) params stack (x ∷ names) count g e =
    ap (λ (ns : List (List ℕ)). x ∷ ns) (after_none (leaves_of (terms (top Missing stack ∷ []))) _ names
    (terms_declare (top Missing stack ∷ [])) (pieces_declare steps params _ names (counted ToUnsigned64 count) g.1
    (omega (arith, e))))
pieces_declare (CallHelper helper n ∷ steps) params stack [] count g e = absurd (omega (arith, e))
pieces_declare (CallHelper helper n ∷ steps) params stack (x ∷ names) count g e =
    ap (λ (ns : List (List ℕ)). x ∷ ns) (after_none (leaves_of (terms (operands Missing n stack []))) _ names
    (terms_declare (operands Missing n stack [])) (pieces_declare steps params _ names (counted (CallHelper helper n) count) g.1
    (omega (arith, e))))
pieces_declare (IndexFromBorrow ∷ steps) params stack [] count g e = absurd (omega (arith, e))
pieces_declare (IndexFromBorrow ∷ steps) params stack (x ∷ names) count g e =
    ap (λ (ns : List (List ℕ)). x ∷ ns) (after_none (leaves_of (terms (top Missing stack ∷ []))) _ names
    (terms_declare (top Missing stack ∷ []))
    (append-nil (declared_in (pieces_of steps params (Local x ∷ below stack) names))
    ∙ pieces_declare steps params (Local x ∷ below stack) names (counted IndexFromBorrow count) g.1 (omega (arith, e))))
pieces_declare (UnwrapResult helper ∷ steps) params stack names count g e =
    let flag = leaves (term_of (top Missing stack)) in
    let handle = leaves_of (terms (top Missing (below stack) ∷ [])) in
    after_none (flag ++ ((w.Refer helper false ∷ handle) ++ [])) _ names
    (two_declared flag ((w.Refer helper false ∷ handle) ++ [])
    ∙ after_none flag _ [] (plain_none local_bound_name (λ n. refl) (top Missing stack))
    (ap local_bound_in (append-nil handle) ∙ terms_declare (top Missing (below stack) ∷ [])))
    (pieces_declare steps params _ names count g.1 e)
pieces_declare (PassToMemory helper exports optional ∷ steps) params stack [] count g e = absurd (omega (arith, e))
pieces_declare (PassToMemory helper exports optional ∷ steps) params stack (x ∷ []) count g e = absurd (omega (arith, e))
pieces_declare (PassToMemory helper exports optional ∷ steps) params stack (x ∷ y ∷ names) count g e =
    let address = address_term optional helper exports (top Missing stack) in
    ap (λ (ns : List (List ℕ)). x ∷ ns) (after_none (leaves address) _ (y ∷ names)
    (address_declares optional helper exports (top Missing stack))
    (ap (λ (ns : List (List ℕ)). y ∷ ns) (pieces_declare steps params _ names (counted (PassToMemory helper exports optional) count) g.1
    (omega (arith, e)))))
pieces_declare (DeferFree free align ∷ steps) params stack names count g e =
    let rest = declared_in (pieces_of steps params stack names) in
    ap (λ (ns : List (List ℕ)). rest ++ ns) (terms_declare (operands Missing 2 stack []))
    ∙ append-nil rest
    ∙ pieces_declare steps params stack names count g.1 e
pieces_declare (CopyOut helper ∷ steps) params stack [] count g e = absurd (omega (arith, e))
pieces_declare (CopyOut helper ∷ steps) params stack (x ∷ names) count g e =
    ap (λ (ns : List (List ℕ)). x ∷ ns) (after_none (leaves (copy_call helper (operands Missing 2 stack []))) _ names
    (copy_declares helper (operands Missing 2 stack [])) (pieces_declare steps params _ names (counted (CopyOut helper) count) g.1
    (omega (arith, e))))
pieces_declare (ReturnPointer size ∷ steps) params stack [] count g e = absurd (omega (arith, e))
pieces_declare (ReturnPointer size ∷ steps) params stack (x ∷ names) count g e =
    let after = params ++ Local x ∷ [] in
    ap (λ (ns : List (List ℕ)). x ∷ ns) (append-nil (declared_in (pieces_of steps after (Local x ∷ stack) names))
    ∙ pieces_declare steps after (Local x ∷ stack) names count g.1 (omega (arith, e)))
pieces_declare (LoadReturn view offset is_wide ∷ steps) params stack [] count g e = absurd (omega (arith, e))
pieces_declare (LoadReturn view offset is_wide ∷ steps) params stack (x ∷ names) count g e =
    ap (λ (ns : List (List ℕ)). x ∷ ns) (after_none (leaves (load_call view offset is_wide (last_of Missing params))) _ names
    (load_declares view offset is_wide (last_of Missing params))
    (pieces_declare steps params _ names (counted (LoadReturn view offset is_wide) count) g.1 (omega (arith, e))))
pieces_declare (StoreReturn view offset is_wide ∷ steps) params stack names count g e =
    after_none (leaves (store_call view offset is_wide (item_at Missing params 0) (top Missing stack))) _ names
    (store_declares view offset is_wide (item_at Missing params 0) (top Missing stack)) (pieces_declare steps params _ names count g.1 e)
pieces_declare (MakeClosure helper function ∷ steps) params stack [] count g e = absurd (omega (arith, e))
pieces_declare (MakeClosure helper function ∷ steps) params stack (x ∷ names) count g e =
    ap (λ (ns : List (List ℕ)). x ∷ ns) (after_none (leaves (closure_call helper function (operands Missing 2 stack []))) _ names
    (closure_declares helper function (top Missing (below stack)) (top Missing stack))
    (pieces_declare steps params _ names (counted (MakeClosure helper function) count) g.1 (omega (arith, e))))
pieces_declare (IndexOf list ∷ steps) params stack [] count g e = absurd (omega (arith, e))
pieces_declare (IndexOf list ∷ steps) params stack (x ∷ names) count g e =
    ap (λ (ns : List (List ℕ)). x ∷ ns) (after_none (leaves_of (terms (top Missing stack ∷ []))) _ names
    (terms_declare (top Missing stack ∷ [])) (pieces_declare steps params _ names (counted (IndexOf list) count) g.1
    (omega (arith, e))))
pieces_declare (ItemAt list ∷ steps) params stack [] count g e = absurd (omega (arith, e))
pieces_declare (ItemAt list ∷ steps) params stack (x ∷ names) count g e =
    ap (λ (ns : List (List ℕ)). x ∷ ns) (after_none (leaves (term_of (top Missing stack))) _ names
    (plain_none local_bound_name (λ n. refl) (top Missing stack))
    (pieces_declare steps params _ names (counted (ItemAt list) count) g.1 (omega (arith, e))))

params_declare : (names : List (List ℕ)) → local_bound_in (map w.LocalBind names) ≡ names
params_declare [] = refl
params_declare (name ∷ names) = ap (λ (ns : List (List ℕ)). name ∷ ns) (params_declare names)

-- the function declares its parameters and temporaries
pub function_declares : (steps : List Step) (names : List (List ℕ)) (params : List Plain) (temps : List (List ℕ)) → list_all step_fit steps ≡ true
    → length (temporaries steps) ≡ length temps → local_bound_in (function_words names (tree_of steps params temps)) ≡ names ++ temps
function_declares steps names params temps fit e =
    let tree = tree_of steps params temps in
    let has : Has local_bound_name local_bound_kind (function_words names tree)
    (function_leaves names tree) = function_names local_bound_name local_bound_kind names tree in
    has.same
    ∙ two_declared (map w.LocalBind names) (lines_leaves tree)
    ∙ ap (λ (ns : List (List ℕ)). ns ++ local_bound_in (lines_leaves tree)) (params_declare names)
    ∙ ap (λ (ns : List (List ℕ)). names ++ ns) (nested_declared (pieces_of steps params [] temps)
    ∙ pieces_declare steps params [] temps 0 (steps_each steps fit) e)
