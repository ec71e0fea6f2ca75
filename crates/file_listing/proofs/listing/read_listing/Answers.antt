use Rattle.std.proofs.Common.{◌≡◌, ◌≢◌, ◌++◌, append-nil, [], length, Ok, refl, ap, sym, ◌∙◌, rules}
use Rattle.std.proofs.lemmas.Bool.{eqb-true}
use Rattle.std.proofs.lemmas.List.{nil_from_length}
use Rattle.glue_ends.specs.Listing.{listing}
use Rattle.file_listing.proofs.Entries.{no_listing, same_files, listable_more, listing_more, entry_long}
use Rattle.file_listing.proofs.listing.read_listing.Goals as goal

pub returns-in_default-clause-refused : goal.returns-in_default-clause-refused
returns-in_default-clause-refused c =
    let more : c.loop-rest.rest.now ≢ [] = search rules in
    no_listing c.args.text.now (length (listing c.loop-rest.files))
    (record {
      files = c.loop-rest.files;
      rest = c.loop-rest.rest.now;
      listable = c.loop-rest.invariant.listable;
      whole = c.loop-rest.invariant.whole;
      at = refl;
      more = more;
      none = rw c.in_default.is at c.in_ok-read.ensures;
    })

pub returns-in_default-clause-exact : goal.returns-in_default-clause-exact
returns-in_default-clause-exact c files listable is =
    let more : c.loop-rest.rest.now ≢ [] = search rules in
    absurd (no_listing c.args.text.now (length (listing c.loop-rest.files))
    (record {
      files = c.loop-rest.files;
      rest = c.loop-rest.rest.now;
      listable = c.loop-rest.invariant.listable;
      whole = c.loop-rest.invariant.whole;
      at = refl;
      more = more;
      none = rw c.in_default.is at c.in_ok-read.ensures;
    }) files listable is)

pub returns-clause-exact : goal.returns-clause-exact
returns-clause-exact c files listable is =
    let empty = nil_from_length _ (eqb-true _ _ (sym c.loop-rest-test.ensures)) in
    let read : listing c.loop-rest.files ≡ c.args.text.now = sym (c.loop-rest.invariant.whole ∙ ap (λ l. listing c.loop-rest.files ++ l) empty ∙ append-nil (listing c.loop-rest.files)) in
    ap Ok (same_files c.loop-rest.files files c.loop-rest.invariant.listable listable (read ∙ sym is))

pub loop-rest-preserved : goal.loop-rest-preserved
loop-rest-preserved c =
    let entry = rw c.in-Some.is at c.in_ok-read.ensures in
    record {
      listable = rw c.in_ok-push.ensures.ok (listable_more _ _ c.loop-rest.invariant.listable entry.listable);
      whole = rw c.in_ok-push.ensures.ok (listing_more _ _ _ _ _ c.loop-rest.invariant.whole entry.whole);
    }
