-- The items of a tree belong into a file that has the names that they use.
use Rattle.std.proofs.Common.{◌≡◌, ℕ, Bool, true, false, ◌&&◌, cond, List, [], ◌∷◌, ◌++◌, length, None, refl, ◌∙◌, inl, inr}
use Rattle.std.proofs.lemmas.List.Folds.{list_all-append}
use Rattle.std.specs.Prelude.{codes, nat_lt}
use Rattle.std.specs.Cmp.Derive.{both_true}
use Rattle.std.specs.List.{list_all, filter_map}
use Rattle.std.specs.Str.{bytes_eq}
use Rattle.values.specs.Lists.{IsIn, AreApart}
use Rattle.glue_words.specs.declared.item.Item.{Item}
use Rattle.glue_words.specs.declared.word.Word.{Word}
use Rattle.glue_words.specs.declared.word.Word.TheVariants as w
use Rattle.glue_words.specs.declared.punct.TheConstants as punct
use Rattle.glue_words.specs.Ident.{is_ident}
use Rattle.glue_words.specs.Limits.{is_prop}
use Rattle.glue_words.specs.Tables.{punct_table, punct_text}
use Rattle.glue_words.specs.Spacing.{joins, notes_stand}
use Rattle.glue_words.specs.Names.{bound_in, used_in, hosted_in, local_bound_in, local_in, wasm_in, spliced_in}
use Rattle.glue_words.specs.Linking.{AreAmong}
use Rattle.glue_words.specs.Words.{space}
use Rattle.glue_words.specs.Facts.{prop_name, opened_name, gated_name, meets_well, is_proper, pairs_in, all_pairs, last_of, turn_in}
use Rattle.glue_words.proofs.Among.{apart_both}
use Rattle.glue_words.proofs.Belonging.{Context, Belongs, AllItems}
use Rattle.glue_words.proofs.Fitting.{the_module, is_gap_word, belongs_by_facts}
use Rattle.glue_words.proofs.Idents.{ident_prop}
use Rattle.glue_shared.specs.Names.{is_one_of}
use Rattle.glue_shared.specs.Paths.{Path}
use Rattle.glue_targets.specs.RoleWords.{access_chain, assigned_words, empty_object, clause_words, root_words}
use Rattle.glue_exports.specs.declared.definition.ExportDefinition.{ExportDefinition}
use Rattle.glue_exports.specs.Tree.{Entry, IsTree, is_reexport}
use Rattle.glue_exports.specs.Printed.{RootNames, root_name, named_word, exported_item, inner_item, assign_item, tree_items}
use Rattle.glue_exports.proofs.Chains.{chain_each}
use Rattle.glue_exports.proofs.Items.{IsNamespace, IsObject, Made, Given, OfEach, each_printed}

idents_both : (xs ys : List (List ℕ)) → list_all is_ident xs ≡ true → list_all is_ident ys ≡ true → list_all is_ident (xs ++ ys) ≡ true
idents_both xs ys h k = list_all-append is_ident xs ys ∙ both_true h k

-- ---- words behind a name

-- a word may stand before an access, and before a space
record IsAccessed (word : Word) : Type 0 where
  dot : meets_well word (w.Punct punct.DOT) ≡ true
  bracket : meets_well word (w.Punct punct.OPEN_BRACKET) ≡ true
  gap : meets_well word space ≡ true
  opens_dot : AreApart (opened_name word (w.Punct punct.DOT)) the_module
  opens_bracket : AreApart (opened_name word (w.Punct punct.OPEN_BRACKET)) the_module
  opens_gap : opened_name word space ≡ []
  gates_dot : gated_name word (w.Punct punct.DOT) ≡ []
  gates_bracket : gated_name word (w.Punct punct.OPEN_BRACKET) ≡ []
  gates_gap : gated_name word space ≡ []

prop_accessed : (name : List ℕ) → IsAccessed (w.Prop name)
prop_accessed name = record {
  dot = refl;
  bracket = refl;
  gap = refl;
  opens_dot = tt;
  opens_bracket = tt;
  opens_gap = refl;
  gates_dot = refl;
  gates_bracket = refl;
  gates_gap = refl;
}

close_accessed : IsAccessed (w.Punct punct.CLOSE_BRACKET)
unfolding joins punct_text
close_accessed = record {
  dot = refl;
  bracket = refl;
  gap = refl;
  opens_dot = tt;
  opens_bracket = tt;
  opens_gap = refl;
  gates_dot = refl;
  gates_bracket = refl;
  gates_gap = refl;
}

refer_accessed : (name : List ℕ) → (name ≡ codes "wasm" → ⊥) → IsAccessed (w.Refer name true)
refer_accessed name other = record {
  dot = refl;
  bracket = refl;
  gap = refl;
  opens_dot = (λ i. elim i [ inl same ↦ other same | inr none ↦ none ], tt);
  opens_bracket = (λ i. elim i [ inl same ↦ other same | inr none ↦ none ], tt);
  opens_gap = refl;
  gates_dot = refl;
  gates_bracket = refl;
  gates_gap = refl;
}

host_accessed : (name : List ℕ) → IsAccessed (w.Host name true)
host_accessed name = record {
  dot = refl;
  bracket = refl;
  gap = refl;
  opens_dot = tt;
  opens_bracket = tt;
  opens_gap = refl;
  gates_dot = refl;
  gates_bracket = refl;
  gates_gap = refl;
}

all_items : (P : Item → Type 0) (items : List Item) → ((item : Item) → IsIn item items → P item) → AllItems P items
all_items P [] h = tt
all_items P (item ∷ items) h = (h item (inl refl), all_items P items (λ i k. h i (inr k)))

module _ (c : Context) where
  -- words that may stand behind such a word, and end what it begins
  record IsTail (words : List Word) : Type 0 where
    binds : bound_in words ≡ []
    local_binds : local_bound_in words ≡ []
    locals : local_in words ≡ []
    takes : wasm_in words ≡ []
    keys : spliced_in words ≡ []
    used_idents : list_all is_ident (used_in words) ≡ true
    hosted_idents : list_all is_ident (hosted_in words ++ []) ≡ true
    resolved : AreAmong (used_in words) c.declared
    known : AreAmong (hosted_in words) c.hosts
    props : list_all is_prop (filter_map prop_name words) ≡ true
    proper : list_all is_proper words ≡ true
    outside : notes_stand false words ≡ true
    turn : turn_in words ≡ None
    spaced : (word : Word) → IsAccessed word → all_pairs meets_well (word ∷ words) ≡ true
    opened : (word : Word) → IsAccessed word → AreApart (pairs_in opened_name (word ∷ words)) the_module
    gated : (word : Word) → IsAccessed word → pairs_in gated_name (word ∷ words) ≡ []
    last : (word : Word) → is_gap_word (last_of word words) ≡ true

  dot_tail : (name : List ℕ) (words : List Word) → is_ident name ≡ true → IsTail words → IsTail (w.Punct punct.DOT ∷ w.Prop name ∷ words)
  dot_tail name words ident h = record {
    binds = h.binds;
    local_binds = h.local_binds;
    locals = h.locals;
    takes = h.takes;
    keys = h.keys;
    used_idents = h.used_idents;
    hosted_idents = h.hosted_idents;
    resolved = h.resolved;
    known = h.known;
    props = both_true (ident_prop name ident) h.props;
    proper = h.proper;
    outside = h.outside;
    turn = rw h.turn refl;
    spaced = λ word a. both_true a.dot (h.spaced (w.Prop name) (prop_accessed name));
    opened = λ word a.
        apart_both (opened_name word (w.Punct punct.DOT)) (pairs_in opened_name (w.Prop name ∷ words)) the_module a.opens_dot (h.opened (w.Prop name) (prop_accessed name));
    gated = λ word a. rw (a.gates_dot, h.gated (w.Prop name) (prop_accessed name)) refl;
    last = λ word. h.last (w.Prop name);
  }

  bracket_tail : (name : List ℕ) (words : List Word) → IsTail words
      → IsTail (w.Punct punct.OPEN_BRACKET ∷ w.Text name ∷ w.Punct punct.CLOSE_BRACKET ∷ words)
  bracket_tail name words h = record {
    binds = h.binds;
    local_binds = h.local_binds;
    locals = h.locals;
    takes = h.takes;
    keys = h.keys;
    used_idents = h.used_idents;
    hosted_idents = h.hosted_idents;
    resolved = h.resolved;
    known = h.known;
    props = h.props;
    proper = h.proper;
    outside = h.outside;
    turn = rw h.turn refl;
    spaced = λ word a. both_true a.bracket (h.spaced (w.Punct punct.CLOSE_BRACKET) close_accessed);
    opened = λ word a.
        apart_both (opened_name word (w.Punct punct.OPEN_BRACKET)) (pairs_in opened_name (w.Punct punct.CLOSE_BRACKET ∷ words)) the_module a.opens_bracket
        (h.opened (w.Punct punct.CLOSE_BRACKET) close_accessed);
    gated = λ word a. rw (a.gates_bracket, h.gated (w.Punct punct.CLOSE_BRACKET) close_accessed) refl;
    last = λ word. h.last (w.Punct punct.CLOSE_BRACKET);
  }

  -- ---- what is assigned

  module _ (operator : ℕ) (small : nat_lt operator (length punct_table) ≡ true) where
    object_tail : IsTail (assigned_words operator empty_object)
    unfolding joins punct_text
    object_tail = record {
      binds = refl;
      local_binds = refl;
      locals = refl;
      takes = refl;
      keys = refl;
      used_idents = refl;
      hosted_idents = refl;
      resolved = tt;
      known = tt;
      props = refl;
      proper = rw small refl;
      outside = refl;
      turn = refl;
      spaced = λ word a. both_true a.gap refl;
      opened = λ word a. rw a.opens_gap tt;
      gated = λ word a. rw a.gates_gap refl;
      last = λ word. refl;
    }

  refer_tail : (name : List ℕ) → is_ident name ≡ true → IsIn name c.declared → IsTail (assigned_words punct.ASSIGN (w.Refer name true ∷ []))
  unfolding joins punct_text
  refer_tail name ident there = record {
    binds = refl;
    local_binds = refl;
    locals = refl;
    takes = refl;
    keys = refl;
    used_idents = rw ident refl;
    hosted_idents = refl;
    resolved = (there, tt);
    known = tt;
    props = refl;
    proper = refl;
    outside = refl;
    turn = refl;
    spaced = λ word a. both_true a.gap refl;
    opened = λ word a. rw a.opens_gap tt;
    gated = λ word a. rw a.gates_gap refl;
    last = λ word. refl;
  }

  host_tail : (name : List ℕ) → is_ident name ≡ true → IsIn name c.hosts → IsTail (assigned_words punct.ASSIGN (w.Host name true ∷ []))
  unfolding joins punct_text
  host_tail name ident there = record {
    binds = refl;
    local_binds = refl;
    locals = refl;
    takes = refl;
    keys = refl;
    used_idents = refl;
    hosted_idents = rw ident refl;
    resolved = tt;
    known = (there, tt);
    props = refl;
    proper = refl;
    outside = refl;
    turn = refl;
    spaced = λ word a. both_true a.gap refl;
    opened = λ word a. rw a.opens_gap tt;
    gated = λ word a. rw a.gates_gap refl;
    last = λ word. refl;
  }

  chain_tail : (path : Path) (words : List Word) → IsTail words → IsTail (access_chain path ++ words)
  chain_tail = chain_each IsTail dot_tail bracket_tail

  -- ---- behind a name

  refer_fits : (name : List ℕ) (words : List Word) → is_ident name ≡ true → IsIn name c.declared → (name ≡ codes "wasm" → ⊥) → IsTail words
      → Belongs c (w.Refer name true ∷ words)
  refer_fits name words ident there other h =
      let a = refer_accessed name other in
      belongs_by_facts c (w.Refer name true ∷ words) (record {
        alone = rw (h.proper, h.spaced (w.Refer name true) a, h.outside, h.turn, h.last (w.Refer name true)) refl;
        idents =
            rw (h.binds, h.local_binds)
            (idents_both (name ∷ used_in words) (hosted_in words ++ []) (both_true ident h.used_idents) h.hosted_idents);
        props = h.props;
        resolved = (there, h.resolved);
        known = h.known;
        local = rw h.locals tt;
        apart = rw h.local_binds tt;
        taken = rw h.takes tt;
        described = rw h.keys tt;
        formed = rw h.keys refl;
        opened = h.opened (w.Refer name true) a;
        gated = rw (h.gated (w.Refer name true) a) tt;
      })

  host_fits : (name : List ℕ) (words : List Word) → is_ident name ≡ true → IsIn name c.hosts → IsTail words → Belongs c (w.Host name true ∷ words)
  host_fits name words ident there h =
      let a = host_accessed name in
      belongs_by_facts c (w.Host name true ∷ words) (record {
        alone = rw (h.proper, h.spaced (w.Host name true) a, h.outside, h.turn, h.last (w.Host name true)) refl;
        idents =
            rw (h.binds, h.local_binds)
            (idents_both (used_in words) (name ∷ (hosted_in words ++ [])) h.used_idents (both_true ident h.hosted_idents));
        props = h.props;
        resolved = h.resolved;
        known = (there, h.known);
        local = rw h.locals tt;
        apart = rw h.local_binds tt;
        taken = rw h.takes tt;
        described = rw h.keys tt;
        formed = rw h.keys refl;
        opened = h.opened (w.Host name true) a;
        gated = rw (h.gated (w.Host name true) a) tt;
      })

  -- ---- items

  -- the file has the name, which is an identifier: the host's, or one that an item declares
  pub record HasName (host : Bool) (name : List ℕ) : Type 0 where
    pub ident : is_ident name ≡ true
    pub declared : host ≡ false → IsIn name c.declared
    pub hosted : host ≡ true → IsIn name c.hosts

  refer_clause : (name segment : List ℕ) → is_ident name ≡ true → IsIn name c.declared → Belongs c (clause_words segment (w.Refer name false))
  unfolding joins punct_text
  refer_clause name segment ident there = belongs_by_facts c (clause_words segment (w.Refer name false)) (record {
    alone = refl;
    idents = rw ident refl;
    props = refl;
    resolved = (there, tt);
    known = tt;
    local = tt;
    apart = tt;
    taken = tt;
    described = tt;
    formed = refl;
    opened = tt;
    gated = tt;
  })

  host_clause : (name segment : List ℕ) → is_ident name ≡ true → IsIn name c.hosts → Belongs c (clause_words segment (w.Host name false))
  unfolding joins punct_text
  host_clause name segment ident there = belongs_by_facts c (clause_words segment (w.Host name false)) (record {
    alone = refl;
    idents = rw ident refl;
    props = refl;
    resolved = tt;
    known = (there, tt);
    local = tt;
    apart = tt;
    taken = tt;
    described = tt;
    formed = refl;
    opened = tt;
    gated = tt;
  })

  root_belongs : (exported : Bool) (name : List ℕ) → is_ident name ≡ true → Belongs c (root_words exported name)
  unfolding joins punct_text
  root_belongs true name ident = belongs_by_facts c (root_words true name) (record {
    alone = refl;
    idents = rw ident refl;
    props = refl;
    resolved = tt;
    known = tt;
    local = tt;
    apart = tt;
    taken = tt;
    described = tt;
    formed = refl;
    opened = tt;
    gated = tt;
  })
  root_belongs false name ident = belongs_by_facts c (root_words false name) (record {
    alone = refl;
    idents = rw ident refl;
    props = refl;
    resolved = tt;
    known = tt;
    local = tt;
    apart = tt;
    taken = tt;
    described = tt;
    formed = refl;
    opened = tt;
    gated = tt;
  })

  -- a clause for a name
  clause_by : (host : Bool) (name segment : List ℕ) → HasName host name → Belongs c (clause_words segment (cond host (w.Host name false) (w.Refer name false)))
  clause_by true name segment h = host_clause name segment h.ident (h.hosted refl)
  clause_by false name segment h = refer_clause name segment h.ident (h.declared refl)

  -- what is assigned, where that is a name
  tail_by : (host : Bool) (name : List ℕ) → HasName host name → IsTail (assigned_words punct.ASSIGN (cond host (w.Host name true) (w.Refer name true) ∷ []))
  tail_by true name h = host_tail name h.ident (h.hosted refl)
  tail_by false name h = refer_tail name h.ident (h.declared refl)

  -- words behind the name of an object
  fits_by : (host : Bool) (name : List ℕ) (words : List Word) → HasName host name → (host ≡ false → name ≡ codes "wasm" → ⊥) → IsTail words
      → Belongs c (cond host (w.Host name true) (w.Refer name true) ∷ words)
  fits_by true name words h other tail = host_fits name words h.ident (h.hosted refl) tail
  fits_by false name words h other tail = refer_fits name words h.ident (h.declared refl) (other refl) tail

  module _ (roots : RootNames) (hosts : List (List ℕ)) (tree : List Entry) where
    -- a definition goes by a name of the host
    abbrev pub is_hosted : ExportDefinition → Bool
    is_hosted d = is_reexport d && is_one_of hosts d.identifier

    -- The items of definitions belong into the file, exported or not, and the file has the names of definitions and of namespaces at the root.
    -- None of those below which definitions are put is `wasm`.
    pub record HasTree : Type 0 where
      pub own : (e : Entry) (item : Item) → IsIn e tree → IsIn item e.1.items → Belongs c item.words
      pub exported : (e : Entry) (item : Item) → IsIn e tree → IsIn item e.1.items → Belongs c (exported_item item).words
      pub named : (e : Entry) → IsIn e tree → HasName (is_hosted e.1) e.1.identifier
      pub object : (segment : List ℕ) → IsNamespace tree segment → HasName false (root_name roots segment)
      pub apart : (segment : List ℕ) → IsNamespace tree segment → root_name roots segment ≡ codes "wasm" → ⊥
      pub reexports_apart : (e : Entry) → IsIn e tree → is_reexport e.1 ≡ true → is_hosted e.1 ≡ false → e.1.identifier ≡ codes "wasm" → ⊥

    module _ (h : HasTree) where
      object_belongs : (segment : List ℕ) (root : Word) (operator : ℕ) (words : List Word) → IsObject roots hosts tree segment root operator → IsTail words
          → Belongs c (root ∷ words)
      object_belongs segment root operator words (Made made named o) tail =
          rw named (fits_by false (root_name roots segment) words (h.object segment made.namespace) (λ f. h.apart segment made.namespace) tail)
      object_belongs segment root operator words (Given d given named o) tail =
          let e : Entry = (segment ∷ [], d) in
          rw named (fits_by (is_hosted d) d.identifier words (h.named e given.there) (h.reexports_apart e given.there given.reexport) tail)

      small_operator : (segment : List ℕ) (root : Word) (operator : ℕ) → IsObject roots hosts tree segment root operator
          → nat_lt operator (length punct_table) ≡ true
      small_operator segment root operator (Made made named o) = rw o refl
      small_operator segment root operator (Given d given named o) = rw o refl

      inner_belongs : (segment : List ℕ) (root : Word) (operator : ℕ) → IsObject roots hosts tree segment root operator → (path : Path)
          → Belongs c (inner_item root operator path).words
      inner_belongs segment root operator o path =
          object_belongs segment root operator (access_chain path ++ assigned_words operator empty_object) o
          (chain_tail path (assigned_words operator empty_object) (object_tail operator (small_operator segment root operator o)))

      assign_belongs : (segment : List ℕ) (root : Word) (operator : ℕ) → IsObject roots hosts tree segment root operator → (e : Entry) → IsIn e tree
          → Belongs c (assign_item hosts root e).words
      assign_belongs segment root operator o e i =
          let name = named_word hosts e.1 true in
          object_belongs segment root operator (access_chain e.0 ++ assigned_words punct.ASSIGN (name ∷ [])) o
          (chain_tail e.0 (assigned_words punct.ASSIGN (name ∷ [])) (tail_by (is_hosted e.1) e.1.identifier (h.named e i)))

      each_belongs : OfEach roots hosts tree (λ item. Belongs c item.words)
      each_belongs = record {
        own = h.own;
        exported = h.exported;
        clause = λ segment d i. clause_by (is_hosted d) d.identifier segment (h.named (segment ∷ [], d) i);
        object = λ segment made. root_belongs (bytes_eq (root_name roots segment) segment) (root_name roots segment) (h.object segment made.namespace).ident;
        published = λ segment made. clause_by false (root_name roots segment) segment (h.object segment made.namespace);
        inner = λ segment root operator o path u. inner_belongs segment root operator o path;
        assigned = λ segment root operator o e i u. assign_belongs segment root operator o e i;
      }

      -- each item of the tree belongs into the file
      pub printed_belong : IsTree tree → AllItems (λ item. Belongs c item.words) (tree_items roots hosts tree)
      printed_belong t =
          all_items (λ item. Belongs c item.words) (tree_items roots hosts tree)
          (each_printed roots hosts tree t (λ item. Belongs c item.words) each_belongs)
