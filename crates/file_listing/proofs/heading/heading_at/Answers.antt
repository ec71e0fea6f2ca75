use Rattle.file_listing.proofs.Headings.{no_heading_without_parts, no_heading_by_word, no_heading_by_path, no_heading_by_count}
use Rattle.file_listing.proofs.heading.heading_at.Goals as goal

pub returns-in_default : goal.returns-in_default
returns-in_default c = no_heading_without_parts _ c.in_default.ensures

pub returns-in_default-is_text_word : goal.returns-in_default-is_text_word
returns-in_default-is_text_word c = no_heading_by_word _ _ _ _ c.in-Some.ensures c.in_default-is_text_word.ensures

pub returns-in_default-from_utf8 : goal.returns-in_default-from_utf8
returns-in_default-from_utf8 c = no_heading_by_path _ _ _ _ c.in-Some.ensures c.in_default-from_utf8.ensures.cases.0

pub returns-in_default-number : goal.returns-in_default-number
returns-in_default-number c = no_heading_by_count _ _ _ _ c.in-Some.ensures (rw c.in_default-number.is at c.in_ok-number.ensures)
