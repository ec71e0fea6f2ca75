-- Facts of words that declare names, take names of the host when they are evaluated, and use nothing of the glue file.
use Rattle.std.proofs.Common.{◌≡◌, ℕ, List, [], ◌++◌, true, false, refl, ap, sym, subst, map}
use Rattle.std.specs.Prelude.{Some, None}
use Rattle.std.specs.List.{list_all, list_any}
use Rattle.glue_words.specs.declared.word.Word.{Word}
use Rattle.glue_words.specs.Facts.{Facts, Levels, Declares, facts}
use Rattle.glue_words.specs.Ident.{is_ident}
use Rattle.glue_words.specs.Linking.{AreAmong}
use Rattle.glue_words.specs.Names.{bound_in, used_in, hosted_in, local_in, local_bound_in, wasm_in, spliced_in, is_export_key}
use Rattle.glue_words.specs.Words.{line_feed}
use Rattle.glue_words.specs.Spacing.{is_export_access}
use Rattle.glue_words.proofs.Belonging.{Context}
use Rattle.glue_words.proofs.Fitting.{Fits}

-- such words, with these names for the outside, braces at these levels, between these two words
abbrev pub shown : (bound hosted outside : List (List ℕ)) → Levels → (first last : Word) → Facts
shown bound hosted outside levels first last = record {
  binds = bound;
  uses = [];
  uses_now = [];
  hosts = hosted;
  hosts_now = hosted;
  local_binds = [];
  locals = [];
  takes = [];
  keys = [];
  outers = outside;
  props = [];
  opened = [];
  gated = [];
  order = map Declares bound;
  hoisted = [];
  lead = [];
  trail = Some false;
  levels = levels;
  arrowed = false;
  proper = true;
  spaced = true;
  exported = false;
  turn = None;
  outside = true;
  inside = true;
  ends = Some (first, last);
}

-- words that declare these names and take these of the host, and hold no other name: none that they use, no local one, no
-- export, no computed key; and aren't exported
pub record HoldsOnly (words : List Word) (bound hosted : List (List ℕ)) : Type 0 where
  pub binds : bound_in words ≡ bound
  pub hosts : hosted_in words ≡ hosted
  pub uses : used_in words ≡ []
  pub local_binds : local_bound_in words ≡ []
  pub locals : local_in words ≡ []
  pub takes : wasm_in words ≡ []
  pub keys : spliced_in words ≡ []
  pub inner : list_any is_export_key words ≡ false

module _ (words : List Word) (bound hosted outside : List (List ℕ)) (levels : Levels) (first : Word)
    (are : facts words ≡ shown bound hosted outside levels first line_feed) where
  pub shown_holds : HoldsOnly words bound hosted
  shown_holds = record {
    binds = ap (λ (f : Facts). f.binds) are;
    hosts = ap (λ (f : Facts). f.hosts) are;
    uses = ap (λ (f : Facts). f.uses) are;
    local_binds = ap (λ (f : Facts). f.local_binds) are;
    locals = ap (λ (f : Facts). f.locals) are;
    takes = ap (λ (f : Facts). f.takes) are;
    keys = ap (λ (f : Facts). f.keys) are;
    inner = ap (λ (f : Facts). f.exported) are;
  }

  -- they fit where the names of the host are known, if the first word takes no export
  pub shown_fits : (c : Context) → is_export_access first ≡ false → list_all is_ident (bound ++ (hosted ++ [])) ≡ true
      → AreAmong hosted c.hosts → Fits c (facts words)
  shown_fits c begins idents known =
      subst (Fits c) (sym are) (record {
        alone = rw begins refl;
        idents = idents;
        props = refl;
        resolved = tt;
        known = known;
        local = tt;
        apart = tt;
        taken = tt;
        described = tt;
        formed = refl;
        opened = tt;
        gated = tt;
      })
