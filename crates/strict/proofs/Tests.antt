-- A reading is its three byte tests: the theorem of specs/Tests.antt.
-- Assumes nothing.
use Prim.Native.Nat.{ℕ}
use mathlib.Core.Bool.{Bool}
use mathlib.Core.List.{List}
use mathlib.Core.Path.{◌≡◌, refl, ap, sym, ◌∙◌, fun_ext}
use lib.ListN.{take}
use Rattle.byte_rules.specs.Reading.{Reading}
use Rattle.scans.specs.Ends.{subscript_step, italic_step, subscript_end, italic_end}
use Rattle.comment_parser.specs.State.{fresh}
use Rattle.comment_parser.specs.Rules.{open_under, under_rule, plain_rule, text_rule, first_rule, pass_act}
use Rattle.comment_parser.specs.Pass.{pass_step, ended_at, pass}
use Rattle.comment_parser.specs.Next.{read_on, answered, next_of}
use Rattle.comment_parser.specs.Events.{seen, events_from, events_of}
use Rattle.comment_parser.specs.declared.ParserState.{ParserState}
use Rattle.parentheticals.specs.Matching.{matches_from}
use Rattle.verify_markup.specs.List.{closed, diags_from, diagnostics}
use Rattle.strict.specs.Tests.{SameTests, OnlyTestsCount}
use Rattle.strict.proofs.Names.{any_name}

module _ (rd other : Reading) where
  -- the tests of the one, under the name of the other
  abbrev renamed : Reading
  renamed = record { name = other.name; bars_subscript = rd.bars_subscript; bars_italic = rd.bars_italic; bars_author = rd.bars_author }

  -- the definitions read the tests alone
  by_tests : (buf : List ℕ) (st : ParserState) → events_from rd buf st ≡ events_from renamed buf st
  unfolding events_from seen next_of answered read_on pass ended_at pass_step pass_act first_rule text_rule plain_rule under_rule open_under subscript_end italic_end subscript_step italic_step
  by_tests buf st = refl

  module _ (same : SameTests rd other) where
    renamed_is : renamed ≡ other
    renamed_is i =
        record {
          name = other.name;
          bars_subscript = fun_ext same.subscript i;
          bars_italic = fun_ext same.italic i;
          bars_author = fun_ext same.author i;
        }

    same_events : (buf : List ℕ) (a b : ℕ) → events_of rd buf a b ≡ events_of other buf a b
    unfolding events_of
    same_events buf a b =
        sym (any_name other.name rd buf (fresh rd.name a b))
        ∙ by_tests buf (fresh other.name a b)
        ∙ ap (λ (r : Reading). events_from r buf (fresh other.name a b)) renamed_is

pub only_tests_count : OnlyTestsCount
unfolding diagnostics
only_tests_count rd other same = record {
  events = same_events rd other same;
  credits = λ buf a b. ap (λ (bars : ℕ → Bool). matches_from bars (take b buf) a) (fun_ext same.author);
  diagnosed = λ n buf a b. ap (diags_from buf b n closed) (same_events rd other same buf a b);
}
