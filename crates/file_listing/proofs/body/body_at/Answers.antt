use Rattle.file_listing.proofs.Bodies.{no_body_without_cut, no_body_by_bytes, body_by_cut}
use Rattle.file_listing.proofs.body.body_at.Goals as goal

pub returns-in_default : goal.returns-in_default
returns-in_default c = no_body_without_cut _ _ _ c.in_default.ensures

pub returns-in_default-read : goal.returns-in_default-read
returns-in_default-read c = no_body_by_bytes _ _ _ c.in-Some.shown.now c.in-Some.rest.now c.in-Some.ensures (rw c.in_default-read.is at c.in_ok-read.ensures)

pub returns : goal.returns
returns c = body_by_cut _ _ _ c.in-Some.shown.now _ _ c.in-Some.ensures (rw c.in-Some-read.is at c.in_ok-read.ensures)
