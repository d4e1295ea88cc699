-- Private. The steps in the place of a trans, whole.
use Rattle.std.proofs.Common.{◌≡◌, ◌≤◌, ◌+◌, ◌*◌, ℕ, List, [], length, Ok, ap, arith}
use Rattle.pair_pool.specs.Trees.{Tree}
use Rattle.pair_pool.specs.Views.{IsOneToOne}
use Rattle.term_pool.specs.CellCounts.{CountsCells}
use Rattle.term_pool.specs.Views.{TermsView, KnowsAll}
use Rattle.rule_model.specs.declared.rules.Rule.{Rule}
use Rattle.equality_steps.specs.declared.site.Site.{Site}
use Rattle.flip_steps.specs.Memory.{IsCellWithinAny, IsRemembered, count_of}
use Rattle.equality_blocks.specs.Blocks.{IsBlockFor}
use Rattle.equality_blocks.specs.Commands.{IsToElaborate, rule_of_command}
use Rattle.equality_blocks.proofs.StayLemmas.{command_later}
use Rattle.elab_equality.specs.declared.linking.Walk.{Walk}
use Rattle.elab_equality.specs.declared.work.Work.{Work}
use Rattle.elab_equality.specs.Linked.{EndsIn}
use Rattle.elab_equality.specs.Walking.{EndsByEither, IsWalk}
use Rattle.elab_equality.specs.Work.{IsDone}
use Rattle.elab_equality.proofs.ClauseLemmas.{trans_closes}
use Rattle.elab_equality.proofs.EndingLemmas.{ended_either, sides_later}
use Rattle.elab_equality.proofs.ReadingLemmas.{trans_few}
use Rattle.elab_equality.proofs.ShortLemmas.{way_short}
use Rattle.elab_equality.proofs.WorkLemmas.{done_then}

-- of the law of `flip_steps`
abbrev pub HasFewForms : Site → TermsView → Work → Type 0
HasFewForms p v w =
    (roots : List ℕ) (trees : List Tree) (n : ℕ) → ((r : ℕ) → IsRemembered w.forms r → IsCellWithinAny p.symbols.now v roots r) → KnowsAll v.pass roots trees →
    CountsCells trees n → count_of w.forms ≤ n

module _ {X Y : Type 0} (p : Site) (u v w : TermsView) (job : IsToElaborate p u) (one : IsOneToOne w.pass) (rule : rule_of_command p ≡ Rule.Trans) (x : Walk)
    (walk : IsWalk p u x) (a b c : Work) (l : X) (k : Y) (none : a.block ≡ []) (nothing : count_of a.forms ≡ 0)
    (first : IsDone p u v a b (length x.used.items) (Ok l)) (last : IsDone p v w b c 1 (Ok k)) where
  whole : IsDone p u w a c (length x.used.items + 1) (Ok k)
  whole = done_then (length x.used.items + 1) (omega arith) first last

  bound : length c.block ≤ 3 * count_of c.forms + (length x.used.items + 1)
  bound =
      let few = whole.moved.few in
      let empty : length a.block ≡ 0 = ap length none in
      omega (arith, few, empty, nothing)

  pub trans_block : EndsIn p w c.block x.from x.to → EndsByEither c.block → HasFewForms p w c → IsBlockFor p w c.block
  trans_block ends by cells =
      let later = command_later p u w whole.keeps one job in
      ended_either p w later (trans_closes p u job rule) c whole.moved.work x.from x.to (sides_later p u w x.from x.to whole.keeps walk.ends) ends
      (trans_few p w later rule c whole.moved.work cells (length x.used.items)
      (way_short p u x.sides.items walk.given x.from x.to x.used.items walk.way walk.once) bound)
      by
