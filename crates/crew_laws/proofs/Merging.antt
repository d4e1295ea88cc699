-- What passes know is spelled by the pool's words, and the pieces that seats drew are those of all chunks.
use Rattle.std.proofs.Common.{◌≡◌, ◌∙◌, ℕ, List, [], length, map, get_or, Some, slice_get, Contains, refl, sym, ap, subst, arith}
use Rattle.std.specs.Prelude.{Vec}
use Rattle.std.specs.Option.{option_map}
use Rattle.std.specs.declared.alloc.Global.{Global}
use Rattle.std.proofs.lemmas.List.{same_lists}
use Rattle.std.proofs.lemmas.Option.{slice_get-map, slice_get-get_or, slice_get_within, get_or_from_slice_get}
use Rattle.pair_pool.specs.declared.holder.Holder.{Holder}
use Rattle.pair_pool.specs.Events as Pool
use Rattle.pair_pool.specs.Events.{shared_world, state_of_world}
use Rattle.pair_pool.specs.GoodStates.{State, AreGoodWords, IsGood, TellsTruth}
use Rattle.pair_pool.specs.Holders.{view_of}
use Rattle.pair_pool.specs.OnlyPass.{only_pass, only_state}
use Rattle.pair_pool.specs.Trees.{Tree, leaf, cell, StandsBy}
use Rattle.pair_pool.specs.Views.{PassView, PoolView, HasCell, IsPlaced, Knows, Grows, IsOneToOne}
use Rattle.pair_pool.specs.Words.{IsCell}
use Rattle.pair_pool.proofs.StateLemmas.{one_to_one}
use Rattle.rule_model.specs.declared.statuses.Status.{Status}
use Rattle.rule_model.specs.Proofs.{ProofItems}
use Rattle.rule_model.specs.Statuses.{Checking, IsStatusAt, AreStatuses}
use Rattle.step_check.specs.declared.chunks.StepJob.{StepJob}
use Rattle.rule_model.specs.Scopes.{commands_in}
use Rattle.step_check.specs.Chunks.{chunks_of, AreStatusesOfChunk}
use Rattle.term_model.specs.Terms.{Var, Term}
use Rattle.term_pool.specs.Views.{TermsView}
use Rattle.worker_crew.specs.Pieces.{Extends, AreAllDone}
use Rattle.crew_laws.specs.AnyOrder.{World, IsReached, pass_events}
use Rattle.crew_laws.specs.Made.{AreMade, IsSaid, decoded, terms_of}
use Rattle.crew_laws.proofs.Apart.{passes_led}

-- the laws of `pair_pool`
abbrev pub LeadsToGood : Type 0
LeadsToGood =
    (opening : Pool.World) → Pool.IsOpening opening → (events : List Pool.Event) (world : Pool.World) → Pool.Lead events opening world → IsGood (state_of_world world)

abbrev pub OpensShared : Type 0
OpensShared = (words : List ℕ) → AreGoodWords words → Pool.IsOpening (shared_world words)

abbrev pub AllSharesAllCells : Type 0
AllSharesAllCells =
    (state : State) → IsGood state → (pass : PassView) → Contains state.passes pass → pass.shares ≡ 65 → (r a b : ℕ) → IsCell state.words r a b → IsPlaced pass r a b

-- ---- a pass that knows more cells knows more

stands_by_more :
    (cells more : ℕ → ℕ → ℕ → Type 0) → ((r a b : ℕ) → cells r a b → more r a b) → (r : ℕ) (t : Tree) → StandsBy cells r t → StandsBy more r t
stands_by_more cells more kept r (leaf k) h = h
stands_by_more cells more kept r (cell s t) (a, b, here, first, second) =
    (a, b, kept r a b here, stands_by_more cells more kept a s first, stands_by_more cells more kept b t second)

grows_by_cells : (old new : PassView) → ((r a b : ℕ) → HasCell old r a b → HasCell new r a b) → Grows old new
unfolding Knows
grows_by_cells old new kept r t h = stands_by_more (HasCell old) (HasCell new) kept r t h

-- ---- a pass that knows every cell of the words

module _ (leads : LeadsToGood) (opens : OpensShared) (cells : AllSharesAllCells) (n : ℕ) (w : World) (reached : IsReached n w) where
  abbrev words : List ℕ
  words = w.pool.words

  good : IsGood (state_of_world w.pool)
  good = leads reached.opening.pool reached.opens.pool (pass_events reached.events) w.pool (passes_led n w reached)

  only_good : IsGood (only_state words)
  only_good = leads (shared_world words) (opens words good.table) [] (shared_world words) refl

  only_truth : TellsTruth words (only_pass words)
  only_truth = only_good.passes 0 (only_pass words) (omega arith)

  only_placed : (r a b : ℕ) → IsCell words r a b → IsPlaced (only_pass words) r a b
  only_placed = cells (only_state words) only_good (only_pass words) (0, omega arith, refl) refl

  pub words_one_to_one : IsOneToOne (only_pass words)
  words_one_to_one = one_to_one words (only_pass words) only_truth only_good.table

  truth : (i : ℕ) (pass : Holder) → slice_get w.pool.passes i ≡ Some pass → TellsTruth words (view_of pass)
  truth i pass is =
      let there : slice_get (map view_of w.pool.passes) i ≡ Some (view_of pass) = slice_get-map view_of w.pool.passes i ∙ ap (option_map view_of) is in
      subst (TellsTruth words) (get_or_from_slice_get (map view_of w.pool.passes) i (view_of pass) (view_of pass) there)
      (good.passes i (view_of pass) (slice_get_within (map view_of w.pool.passes) i (view_of pass) there))

  -- it knows what any pass knows
  pub words_tell : (i : ℕ) (pass : Holder) → slice_get w.pool.passes i ≡ Some pass → Grows (view_of pass) (only_pass words)
  words_tell i pass is =
      let own = truth i pass is in
      grows_by_cells (view_of pass) (only_pass words) (λ r a b h. only_truth.placed r a b (only_placed r a b (own.seen r a b (own.known r a b h))))

-- ---- the pieces of a check

module _ (job : StepJob) (pool : PoolView) (w : World) where
  abbrev Says : TermsView → ℕ → Vec Status Global → Type 0
  Says v k piece = AreStatusesOfChunk job.flags job.symbols.now v job.problem.now.assertions job.proof.now k piece.items

  -- what is said by what a pass knows is said by the words
  pub said_by_words : ((old new : TermsView) (k : ℕ) (piece : Vec Status Global) → Extends old new → Says old k piece → Says new k piece)
      → ((i : ℕ) (pass : Holder) → slice_get w.pool.passes i ≡ Some pass → Grows (view_of pass) (only_pass w.pool.words))
      → (k : ℕ) (piece : Vec Status Global) → IsSaid job pool w k piece → Says (decoded pool w) k piece
  said_by_words more tell k piece h =
      more (terms_of pool (view_of h.pass)) (decoded pool w) k piece (record { pool = refl; grows = tell h.index h.pass h.is }) h.said

  pub made_are_done : ((k : ℕ) (piece : Vec Status Global) → IsSaid job pool w k piece → Says (decoded pool w) k piece)
      → (all : List (Vec Status Global)) → AreMade job pool w all → AreAllDone (Says (decoded pool w)) (chunks_of (commands_in job.proof.now)) all
  made_are_done said all h = record {
    one_each = h.one_each;
    say =
        λ k d below. said k (get_or all k d) (h.said k (get_or all k d) (slice_get-get_or all k d (rw h.one_each below)));
  }

-- a proof has one list of statuses
pub one_list : ((c : Checking) (proof : ProofItems Var Term) (i : ℕ) (x y : Status) → IsStatusAt c proof i x → IsStatusAt c proof i y → x ≡ y)
    → (c : Checking) (proof : ProofItems Var Term) (statuses others : List Status) → AreStatuses c proof statuses → AreStatuses c proof others → statuses ≡ others
one_list one c proof statuses others h g =
    let long : length statuses ≡ length others = h.count ∙ sym g.count in
    same_lists statuses others long (λ i d below.
    one c proof i (get_or statuses i d) (get_or others i d) (h.each i (get_or statuses i d) (slice_get-get_or statuses i d below))
    (g.each i (get_or others i d) (slice_get-get_or others i d (omega (arith, below, long)))))
