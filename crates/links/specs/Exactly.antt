-- WHICH RECORDS ARE LISTED, the statement: (a, e, k) is in the list exactly if a Label event with the span from a to e is in the event list, and entry
-- k of the table is its unescaped text. In any reading. Proved in proofs/Exactly.antt.
use Rattle.std.specs.Prelude.{ℕ, ◌<◌, ◌≡◌, List, [], ◌∷◌, length}
use Rattle.std.proofs.Math.Option.{none}
use Rattle.basics.specs.Member.{In}
use Rattle.byte_rules.specs.Reading.{Reading}
use Rattle.name_table.specs.Table.{name_at}
use Rattle.comment_parser.specs.Item.{span}
use Rattle.comment_parser.specs.Events.{events_of}
use Rattle.comment_parser.specs.declared.CommentItem.TheVariants.{Label}
use Rattle.links.specs.Links.{name_of, links_of, links_refusal}

module _ (rd : Reading) (buf bytes ends : List ℕ) (start end a e k : ℕ) where
  abbrev pub Listed : Type 0
  Listed = In (a ∷ e ∷ k ∷ []) (links_of rd buf bytes ends start end)

  pub record Linked : Type 0 where
    -- a Label with that span, wherever its tilde stands
    pub tilde : ℕ
    pub label : In (Label tilde (span a e)) (events_of rd buf start end)
    -- entry k is its unescaped text
    pub entry : k < length ends
    pub named : name_at bytes ends k ≡ name_of buf a e

  pub record Exactly : Type 0 where
    pub only_when : Listed → Linked
    pub whenever : Linked → Listed

-- of every call that is not refused
abbrev pub ListedExactly : Type 0
ListedExactly = (rd : Reading) (buf bytes ends : List ℕ) (start end : ℕ) → none ≡ links_refusal buf bytes ends start end → (a e k : ℕ) → Exactly rd buf bytes ends start end a e k
