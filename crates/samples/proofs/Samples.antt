-- Every row of the table is as the definitions compute it.
-- Assumes nothing.
use Prim.Native.Nat.{ℕ}
use mathlib.Core.Path.{◌≡◌, refl}
use mathlib.Core.List.{map}
use Rattle.byte_rules.specs.Classes.{is_blank, is_closer, is_italic_opener, is_digit, is_capital, is_small, is_alphanumeric, is_credit_space, is_author_byte, is_label_escape}
use Rattle.byte_rules.specs.Utf8.{byte_or, within, is_tail, is_one, is_two, is_three, is_four, char_len}
use Rattle.byte_rules.specs.Reading.{bars_nothing, is_mark, is_opening}
use Rattle.look.specs.Look.{holds_at, is_byte, byte_at, blank_at, alphanumeric_at, closer_at, italic_opener_at, doubled_at, word_at}
use Rattle.scans.specs.Scan.{walk, scan}
use Rattle.scans.specs.Ends.{blanks_step, tag_step, subscript_step, italic_step, tag_end, opens_tag, label_stopper, html_mark, label_step, closes_italic, subscript_end, italic_end, is_url}
use Rattle.records.specs.Answer.{state_refusal}
use Rattle.records.specs.Produced.{turns, produced}
use Rattle.lines.specs.Lines.{lf_in, line_of, with_line}
use Rattle.parentheticals.specs.Fields.{space_run, spaces_at, sign_at, phrase_at, fits, picture_at, date_at, author_start, author_byte, author_len, author_within, author_end}
use Rattle.parentheticals.specs.Matching.{author_after, head_at, notice_at, tail_at, rest_at, credit_at, match_at, first_of, next_from, bytes_left, step_from, matches_from}
use Rattle.comment_parser.specs.Rules.{blank_before, opens_ahead, before_open, after_close, after_lf, label_item, tick_rule, math_rule, tilde_rule, newline_rule, html_rule, bracket_rule, opens_italic, step_to, open_under, under_rule, plain_rule, text_rule, first_rule, pass_act}
use Rattle.comment_parser.specs.Pass.{run_start, pass_step, ended_at, pass, run_item}
use Rattle.comment_parser.specs.Next.{give, read_on, answered, next_of}
use Rattle.comment_parser.specs.Events.{seen, events_from, events_of}
use Rattle.date.specs.Numbers.{digits_on, digits, number}
use Rattle.date.specs.Months.{names, letter_of, is_month_name, month_in, month_of}
use Rattle.date.specs.Reading.{fields, read_date}
use Rattle.date.specs.Calendar.{is_leap, month_days, is_calendar}
use Rattle.unescape.specs.Unescape.{unescaped}
use Rattle.name_table.specs.Order.{order_of}
use Rattle.name_table.specs.Table.{start_of, not_greater, bad_at, bad_from, first_bad}
use Rattle.name_table.specs.Search.{entry_from, entry_of}
use Rattle.verify_markup.specs.Items.{bib_escapes, tag_diags}
use Rattle.verify_markup.specs.List.{last_diags, diags_from, diagnostics}
use Rattle.links.specs.Links.{label_links, links_from, links_of}
use Rattle.samples.specs.Samples.{computed, table}

pub samples : (a b c d e f g h i j k l : ℕ) → map computed (table a b c d e f g h i j k l) ≡ table a b c d e f g h i j k l
unfolding is_credit_space is_author_byte byte_or within is_tail is_one is_two is_three is_four char_len space_run spaces_at sign_at phrase_at fits picture_at date_at author_start author_byte author_len author_within author_end author_after head_at notice_at tail_at rest_at credit_at match_at first_of next_from bytes_left step_from matches_from is_blank is_closer is_italic_opener is_digit is_capital is_small is_alphanumeric bars_nothing is_mark is_opening holds_at is_byte byte_at blank_at alphanumeric_at closer_at italic_opener_at doubled_at word_at walk scan blanks_step tag_step subscript_step italic_step tag_end opens_tag label_stopper html_mark label_step closes_italic subscript_end italic_end is_url state_refusal turns produced blank_before opens_ahead before_open after_close after_lf label_item tick_rule math_rule tilde_rule newline_rule html_rule bracket_rule opens_italic step_to open_under under_rule plain_rule text_rule first_rule pass_act run_start pass_step ended_at pass run_item give read_on answered next_of seen events_from events_of digits_on digits number names letter_of is_month_name month_in month_of fields read_date is_leap month_days is_calendar is_label_escape unescaped order_of start_of not_greater bad_at bad_from first_bad entry_from entry_of bib_escapes tag_diags last_diags diags_from diagnostics lf_in line_of with_line label_links links_from links_of
samples a b c d e f g h i j k l = refl
