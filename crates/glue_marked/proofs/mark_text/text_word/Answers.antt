use Rattle.std.proofs.Common.{◌≡◌, ◌∙◌, ℕ, List, true≢false, Vec, Global, sym, ap}
use Rattle.std.specs.Prelude.{Some}
use Rattle.std.specs.String.{string_bytes}
use Rattle.std.proofs.lemmas.Bool.{false_from_ne_true}
use Rattle.std.proofs.lemmas.Str.{IsUtf8-from_is_utf8}
use Rattle.std.specs.Str.{is_utf8, bytes_eq}
use Rattle.glue_words.specs.Literal.{read_literal, literal}
use Rattle.glue_words.specs.declared.word.Word.TheVariants.{Text}
use Rattle.glue_marked.proofs.MarkedLiterals.{text_none, text_no, text_found, text_other}
use Rattle.glue_marked.proofs.mark_text.text_word.Goals as goal

pub returns-in_default : goal.returns-in_default
returns-in_default c = sym (text_none c.args.front.now (sym (rw c.in_default.is at c.in_ok-bytes.ensures)))

pub returns-in_default-from_utf8 : goal.returns-in_default-from_utf8
returns-in_default-from_utf8 c =
    let e = rw c.in-Some.is at c.in_ok-bytes.ensures in
    sym (text_no c.args.front.now c.in-Some.bytes.items (sym e)
    (false_from_ne_true (is_utf8 c.in-Some.bytes.items)
    (λ t. true≢false (sym
    (c.in_default-from_utf8.ensures.succeeds (IsUtf8-from_is_utf8 c.in-Some.bytes.items t))))))

pub returns-then-eq : goal.returns-then-eq
returns-then-eq c =
    let e : read_literal c.args.front.now
    ≡ Some (string_bytes c.in-Ok.text) = sym (rw c.in-Some.is at c.in_ok-bytes.ensures)
    ∙ ap (λ (v : Vec ℕ Global). Some v.items) (sym c.in-Ok.ensures.ok) in
    let l : c.as_bytes.result.now ≡ literal (string_bytes c.in-Ok.text) = c.as_bytes.ensures.value
    ∙ c.in_ok-js_string_literal.ensures.value ∙ ap literal c.as_str.ensures.value in
    ap (λ (x : List ℕ). Some (Text x)) c.new.ensures
    ∙ sym (text_found c.args.front.now (string_bytes c.in-Ok.text) e (rw c.as_str.ensures.value at c.as_str.utf8)
    (ap (λ (x : List ℕ). bytes_eq x c.args.front.now) (sym l) ∙ sym c.eq.ensures ∙ c.if-eq.true))

pub returns-else-eq : goal.returns-else-eq
returns-else-eq c =
    let e : read_literal c.args.front.now
    ≡ Some (string_bytes c.in-Ok.text) = sym (rw c.in-Some.is at c.in_ok-bytes.ensures)
    ∙ ap (λ (v : Vec ℕ Global). Some v.items) (sym c.in-Ok.ensures.ok) in
    let l : c.as_bytes.result.now ≡ literal (string_bytes c.in-Ok.text) = c.as_bytes.ensures.value
    ∙ c.in_ok-js_string_literal.ensures.value ∙ ap literal c.as_str.ensures.value in
    sym (text_other c.args.front.now (string_bytes c.in-Ok.text) e (rw c.as_str.ensures.value at c.as_str.utf8)
    (ap (λ (x : List ℕ). bytes_eq x c.args.front.now) (sym l) ∙ sym c.eq.ensures ∙ c.if-eq.false))
