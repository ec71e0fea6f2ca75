-- Words that belong into a file, behind others that do and use nothing of it, such as notes and `export `.
use Rattle.std.proofs.Common.{◌≡◌, ℕ, Bool, true, false, true≢false, List, [], ◌∷◌, ◌++◌, refl, sym, ap, subst, ◌∙◌}
use Rattle.std.proofs.lemmas.List.Elements.{filter_map-append}
use Rattle.std.specs.Prelude.{Option, None}
use Rattle.std.proofs.lemmas.List.Folds.{list_all-append}
use Rattle.std.specs.Cmp.Derive.{both_true}
use Rattle.std.specs.List.{filter_map}
use Rattle.glue_words.specs.declared.word.Word.{Word}
use Rattle.glue_words.specs.Limits.{keeps_limits, is_computed}
use Rattle.glue_words.specs.Names.{used_name, hosted_name, local_bound_name, local_name, wasm_name, spliced_key, used_in, hosted_in, local_bound_in, local_in, spliced_in}
use Rattle.glue_words.specs.Spacing.{stands, first_word, begins_apart, is_open, notes_stand}
use Rattle.glue_words.specs.Linking.{AreAmong, is_named_access}
use Rattle.glue_words.proofs.Among.{among_both, among_left, among_right}
use Rattle.glue_words.proofs.Belonging.{Context, Belongs, ends_in_gap}
use Rattle.glue_words.proofs.Fitting.{belongs_by_facts}
use Rattle.glue_words.proofs.Spaced.{next_apart, all_both, each_next_both, stands_before_any, named_before_any, notes_stand-append, is_open-append, ends_in_gap-append}
use Rattle.glue_targets.specs.RoleWords.{export_first}

first_apart : (words : List Word) → begins_apart words ≡ true → next_apart (first_word words None) ≡ true
first_apart [] h = refl
first_apart (word ∷ words) h = h

begins_both : (front back : List Word) → ends_in_gap front ≡ true → begins_apart front ≡ true → begins_apart (front ++ back) ≡ true
begins_both [] back ends h = absurd (true≢false (sym ends))
begins_both (word ∷ front) back ends h = h

module _ (c : Context) (front back : List Word) (f : Belongs c front) (b : Belongs c back) (uses : used_in front ≡ []) (hosts : hosted_in front ≡ [])
    (locals : local_bound_in front ≡ []) where
  names_among : (name : Word → Option (List ℕ)) (ys : List (List ℕ)) → AreAmong (filter_map name front) ys → AreAmong (filter_map name back) ys
      → AreAmong (filter_map name (front ++ back)) ys
  names_among name ys h k =
      subst (λ (xs : List (List ℕ)). AreAmong xs ys) (sym (filter_map-append name front back)) (among_both (filter_map name front) (filter_map name back) ys h k)

  next : next_apart (first_word back None) ≡ true
  next = first_apart back b.alone.spaced.apart

  -- words behind others belong where they do by themselves, and the others use nothing
  pub behind_belong : Belongs c (front ++ back)
  behind_belong = record {
    resolved = record {
      bound = names_among used_name c.declared f.resolved.bound b.resolved.bound;
      known = names_among hosted_name c.hosts f.resolved.known b.resolved.known;
    };
    local = record {
      bound = subst (λ (ys : List (List ℕ)). AreAmong (local_in (front ++ back)) ys) (sym (filter_map-append local_bound_name front back))
          (names_among local_name (local_bound_in front ++ local_bound_in back)
          (among_left (local_in front) (local_bound_in front) (local_bound_in back) f.local.bound)
          (among_right (local_in back) (local_bound_in front) (local_bound_in back) b.local.bound));
      apart = rw (filter_map-append local_bound_name front back, filter_map-append used_name front back, filter_map-append hosted_name front back, locals, uses, hosts)
          b.local.apart;
    };
    exported = record {
      known = names_among wasm_name c.exports f.exported.known b.exported.known;
      named =
          each_next_both is_named_access front back None
          (named_before_any front (first_word back None) f.alone.ends f.alone.spaced.limits next f.exported.named) b.exported.named;
    };
    described = record {
      known = names_among spliced_key c.keys f.described.known b.described.known;
      formed =
          rw (filter_map-append spliced_key front back)
          (list_all-append is_computed (spliced_in front) (spliced_in back) ∙ both_true f.described.formed b.described.formed);
    };
    alone = record {
      spaced = record {
        limits = all_both keeps_limits front back f.alone.spaced.limits b.alone.spaced.limits;
        spaced =
            each_next_both stands front back None
            (stands_before_any front (first_word back None) f.alone.ends f.alone.spaced.limits next f.alone.spaced.spaced) b.alone.spaced.spaced;
        apart = begins_both front back f.alone.ends f.alone.spaced.apart;
        notes =
            notes_stand-append false front back
            ∙ both_true f.alone.spaced.notes (ap (λ (o : Bool). notes_stand o back) f.alone.closed ∙ b.alone.spaced.notes);
      };
      ends = ends_in_gap-append front back b.alone.ends;
      closed = is_open-append false front back ∙ ap (λ (o : Bool). is_open o back) f.alone.closed ∙ b.alone.closed;
    };
  }

export_front : (c : Context) → Belongs c (export_first true)
export_front c = belongs_by_facts c (export_first true) (record {
  alone = refl;
  idents = refl;
  props = refl;
  resolved = tt;
  known = tt;
  local = tt;
  apart = tt;
  taken = tt;
  described = tt;
  formed = refl;
  opened = tt;
  gated = tt;
})

-- words that belong do so with `export ` before them
pub export_belongs : (c : Context) (words : List Word) → Belongs c words → Belongs c (export_first true ++ words)
export_belongs c words b = behind_belong c (export_first true) words (export_front c) b refl refl refl
