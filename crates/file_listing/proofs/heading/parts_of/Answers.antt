use Rattle.file_listing.proofs.Headings.{after_file, before_count, no_count, no_word}
use Rattle.file_listing.proofs.heading.parts_of.Goals as goal

pub returns-in_default-last_word : goal.returns-in_default-last_word
returns-in_default-last_word c path word count parts =
    no_count c.in-Some.rest.now path word count (after_file c.args.line.now c.in-Some.rest.now path word count c.in-Some.ensures parts) c.in_default-last_word.ensures

pub returns-in_default-last_word-2 : goal.returns-in_default-last_word-2
returns-in_default-last_word-2 c path word count parts =
    let rest = after_file c.args.line.now c.in-Some.rest.now path word count c.in-Some.ensures parts in
    let cut = before_count c.in-Some.rest.now c.in-Some-last_word.front.now c.in-Some-last_word.count.now path word count rest parts.count_lacks c.in-Some-last_word.ensures in
    no_word c.in-Some-last_word.front.now path word cut.0 c.in_default-last_word-2.ensures
