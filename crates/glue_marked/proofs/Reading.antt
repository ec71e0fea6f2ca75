-- What has to unfold so that the words of a text, and their facts, compute.
use Rattle.std.specs.Str.{chars, is_utf8}
use lib.Utf8.{encode}
use Rattle.glue_words.specs.Tables.{punct_text}
use Rattle.glue_words.specs.Spacing.{joins}
use Rattle.glue_marked.specs.Reads.{words_in}
use Rattle.glue_words.specs.Literal.{literal, read_literal}
use Rattle.glue_marked.specs.Marked.{read_marked, words_from, preceded, is_dot, open_after, word_of, punct_word}
use Rattle.glue_marked.specs.Marked.{text_word, text_if, bare_word, number_word, digit_added, wasm_word, marked_word}
use Rattle.glue_marked.specs.Marked.{regex_word, name_word, may_name, is_named, len_of, punct_len, key_place, is_free}
use Rattle.glue_marked.specs.Marked.{punct_place, place_of, template_len, quote_len, kind_of, kind_by_byte}
use Rattle.glue_marked.specs.Marked.{begins_template, is_name_byte, is_digit, is_mark}

-- `unfolding reading` lets `refl` compute the words of a text, and their facts
unfoldable pub reading : Unit {0}
unfolding read_marked words_from preceded is_dot open_after word_of punct_word text_word text_if bare_word
    number_word digit_added wasm_word marked_word regex_word name_word may_name is_named len_of punct_len key_place
    is_free punct_place place_of template_len quote_len kind_of kind_by_byte begins_template is_name_byte is_digit
    is_mark read_literal literal is_utf8 chars encode words_in joins punct_text
reading = tt
