-- Cited by crates above. What is asked of a command, and said of steps in its place, goes on being so as more terms are known.
use Rattle.std.proofs.Common.{ℕ, List}
use Rattle.std.specs.List.{AllZip}
use Rattle.pair_pool.specs.Views.{IsOneToOne}
use Rattle.term_model.proofs.Zips.{zip_weaken}
use Rattle.term_model.specs.Terms.{Term}
use Rattle.term_pool.specs.Views.{TermsView, KeepsTerms, ReferToAll}
use Rattle.proof_store.specs.AddedSteps.{AddedStep}
use Rattle.equality_steps.specs.declared.site.Site.{Site}
use Rattle.equality_steps.proofs.StepLemmas.{refers_later, refer_later, block_later}
use Rattle.equality_blocks.specs.Blocks.{IsBlockFor, IsClosingBlockFor, IsClosingStep}
use Rattle.equality_blocks.specs.Commands.{IsToElaborate}
use Rattle.equality_blocks.specs.Counts.{IsCellOf, IsRootOf}
use Rattle.equality_blocks.specs.Made.{AreMadeSteps, IsMadeFor, IsMadeStep, IsPlacedFor, StandsForMade}
use Rattle.equality_blocks.specs.Pairs.{ArePaired}
use Rattle.equality_blocks.proofs.Growing.{few_more, items_more, made_more, paired_more, placed_more, root_more, stands_more}

module _ (p : Site) (v w : TermsView) (keeps : KeepsTerms v w) where
  pub command_later : IsOneToOne w.pass → IsToElaborate p v → IsToElaborate p w
  command_later one h = record {
    table = h.table;
    known = one;
    proof = h.proof;
    stand = items_more p.symbols.now v w keeps.pass.grows p.proof.now h.proof h.stand;
    formed = h.formed;
    sorted = h.sorted;
    assertions = h.assertions;
    asserted = refer_later p v w keeps p.asserted.now h.assertions h.asserted;
    truths = h.truths;
    within = h.within;
    few_literals = h.few_literals;
    few_premises = h.few_premises;
    ok = h.ok;
    outer = h.outer;
  }

  pub paired_later : (t u : Term) → ArePaired p v t u → ArePaired p w t u
  paired_later t u h = paired_more p v w keeps.pass.grows t u h

  pub made_later : (t : Term) → IsMadeFor p v t → IsMadeFor p w t
  made_later t h = made_more p v w keeps.pass.grows t h

  pub placed_later : (t : Term) → IsPlacedFor p v t → IsPlacedFor p w t
  placed_later t h = placed_more p v w keeps.pass.grows t h

  pub root_later : (r : ℕ) → IsRootOf p v r → IsRootOf p w r
  root_later r h = root_more p v w keeps.pass.grows r h

  pub made_at_later : (r : ℕ) → StandsForMade p v r → StandsForMade p w r
  made_at_later r h = record {
    term = h.term;
    refers = refers_later p v w keeps r h.term h.refers;
    made = made_later h.term h.made;
  }

  made_step_later : (a : AddedStep) → IsMadeStep p v a → IsMadeStep p w a
  made_step_later a h = record { literals = λ r has. made_at_later r (h.literals r has); pivots = λ q has. made_at_later q.0 (h.pivots q has) }

  pub made_steps_later : (steps : List AddedStep) → AreMadeSteps p v steps → AreMadeSteps p w steps
  made_steps_later steps h = λ number a there. made_step_later a (h number a there)

  pub cell_later : (r : ℕ) → IsCellOf p v r → IsCellOf p w r
  cell_later r h = record {
    root = h.root;
    is = root_later h.root h.is;
    within = record { cell = h.within.cell; stands = stands_more p.symbols.now v w keeps.pass.grows h.root r h.within.stands };
  }

  pub block_for_later : IsOneToOne w.pass → (block : List AddedStep) → IsBlockFor p v block → IsBlockFor p w block
  block_for_later one block h = record {
    command = command_later one h.command;
    closes_nothing = h.closes_nothing;
    steps = block_later p v w keeps block h.steps;
    ends = h.ends;
    made = made_steps_later block h.made;
    few = few_more p v w keeps.pass.grows _ h.few;
  }

  closing_step_later : (one : IsOneToOne w.pass) (command : IsToElaborate p v) (before : List AddedStep) (a : AddedStep) → IsClosingStep p v command before a
      → IsClosingStep p w (command_later one command) before a
  unfolding command_later
  closing_step_later one command before a h = record {
    rule = h.rule;
    clause = h.clause;
    pivots = h.pivots;
    links = h.links;
    premises = h.premises;
    stand = zip_weaken (ReferToAll p.symbols.now v) (ReferToAll p.symbols.now w) (refer_later p v w keeps) _ h.premises h.stand;
    scope = h.scope;
    closes = h.closes;
    closing = h.closing;
  }

  pub closing_block_later : IsOneToOne w.pass → (block : List AddedStep) → IsClosingBlockFor p v block → IsClosingBlockFor p w block
  closing_block_later one block h = record {
    command = command_later one h.command;
    before = h.before;
    last = h.last;
    is = h.is;
    steps = block_later p v w keeps h.before h.steps;
    closing = closing_step_later one h.command h.before h.last h.closing;
    made = made_steps_later block h.made;
    few = few_more p v w keeps.pass.grows _ h.few;
  }
