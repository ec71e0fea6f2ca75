-- Where a reader of a text literal stands, as the code has it.
use Rattle.std.specs.Prelude.{◌≤◌}
use Rattle.glue_words.specs.Literal as literals
use Rattle.glue_marked.specs.declared.literal_bytes.At.{At}
use Rattle.glue_marked.specs.declared.literal_bytes.At.TheVariants as ats

abbrev pub reading_of : At → literals.Reading
reading_of ats.Start = literals.Start
reading_of ats.Inside = literals.Inside
reading_of ats.Escaped = literals.Escaped
reading_of (ats.Digits left value) = literals.Digits left value
reading_of ats.Done = literals.Done
reading_of ats.Bad = literals.Bad

-- the number so far is small: at most 36 for each digit
abbrev pub IsSmall : At → Type 0
IsSmall (ats.Digits left value) = record {
  some : 1 ≤ left;
  few : left ≤ 4;
  four : 4 ≤ left → value ≤ 0;
  three : 3 ≤ left → value ≤ 36;
  two : 2 ≤ left → value ≤ 612;
  one : value ≤ 9828;
}
IsSmall at = Unit {0}
