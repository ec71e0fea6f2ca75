use Rattle.file_listing.proofs.Entries.{no_entry_without_line, no_entry_by_heading, no_entry_by_body, entry_by_parts}
use Rattle.file_listing.proofs.listing.entry_at.Goals as goal

pub returns-in_default : goal.returns-in_default
returns-in_default c = no_entry_without_line _ c.in_default.ensures

pub returns-in_default-said : goal.returns-in_default-said
returns-in_default-said c = no_entry_by_heading _ c.in-Some.line.now c.in-Some.rest.now c.in-Some.ensures (rw c.in_default-said.is at c.in_ok-said.ensures)

pub returns-in_default-shown : goal.returns-in_default-shown
returns-in_default-shown c =
    no_entry_by_body _ c.in-Some.line.now c.in-Some.rest.now c.in-Some-said.heading.path.now c.in-Some-said.heading.is_text c.in-Some-said.heading.count c.in-Some.ensures
    (rw c.in-Some-said.is at c.in_ok-said.ensures) (rw c.in_default-shown.is at c.in_ok-shown.ensures)

pub returns : goal.returns
returns c =
    rw c.in_ok-from_str.ensures (entry_by_parts _ c.in-Some.line.now c.in-Some.rest.now c.in-Some-said.heading.path.now c.in-Some-said.heading.is_text c.in-Some-said.heading.count _ _ c.in-Some.ensures
    (rw c.in-Some-said.is at c.in_ok-said.ensures) (rw c.in-Some-shown.is at c.in_ok-shown.ensures))
