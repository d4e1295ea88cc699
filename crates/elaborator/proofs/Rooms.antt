-- How many commands are needed up to a command, and for the steps that are moved before anchors.
use Rattle.std.proofs.Common.{◌≡◌, ◌<◌, ◌≤◌, ◌+◌, ◌-◌, ℕ, zero, suc, List, [], ◌∷◌, length, take, slice_get, Some, refl, ap, arith}
use Rattle.std.proofs.lemmas.List.{length-take-le}
use Rattle.std.proofs.lemmas.Option.{slice_get_within}
use Rattle.proof_store.specs.AddedSteps.{AddedStep}
use Rattle.rule_model.specs.Commands.{closing, lines_in}
use Rattle.rule_model.specs.Proofs.{Step, ProofItems}
use Rattle.rule_model.specs.Scopes.{Anchor, Nesting, outermost, inside, at, commands_in, scope_number}
use Rattle.rule_model.proofs.LineReading.{closes_is}
use Rattle.rule_model.proofs.Numbers.{lines_in_count}
use Rattle.elaborator.specs.Blocks.{commands_for, commands_needed}
use Rattle.elaborator.specs.Reached.{Job, IsJob, closer_of, ahead, needed_to}
use Rattle.elaborator.specs.Steps.{front, block_at}
use Rattle.elaborator.proofs.OldLines.{IsClosedAt, Closes}
use Rattle.elaborator.proofs.Seeing.{index_of_get}

-- a block and all but its last
pub front_count : (block : List AddedStep) → length (front block) + 1 ≡ commands_for block
front_count [] = refl
front_count (a ∷ block) =
    let count = length-take-le (length (a ∷ block) - 1) (a ∷ block) (omega arith) in omega arith

pub front_length : (block : List AddedStep) → length (front block) ≡ length block - 1
front_length block = length-take-le (length block - 1) block (omega arith)

needed_more : (blocks : List (List AddedStep)) (i j : ℕ) → i ≤ j → commands_needed (take i blocks) ≤ commands_needed (take j blocks)
needed_more blocks zero j less = omega arith
needed_more [] (suc i) j less = omega arith
needed_more (b ∷ blocks) (suc i) zero less = absurd (omega arith)
needed_more (b ∷ blocks) (suc i) (suc j) less = let rest = needed_more blocks i j (omega arith) in omega arith

needed_whole : (blocks : List (List AddedStep)) (i : ℕ) → commands_needed (take i blocks) ≤ commands_needed blocks
needed_whole blocks zero = omega arith
needed_whole [] (suc i) = omega arith
needed_whole (b ∷ blocks) (suc i) = let rest = needed_whole blocks i in omega arith

needed_next : (blocks : List (List AddedStep)) (i : ℕ) → i < length blocks → commands_needed (take (suc i) blocks) ≡ commands_needed (take i blocks) + commands_for (block_at blocks i)
needed_next [] i less = absurd (omega arith)
needed_next (b ∷ blocks) zero less = omega arith
needed_next (b ∷ blocks) (suc i) less = let rest = needed_next blocks i (omega arith) in omega arith

module _ (job : Job) (is : IsJob job) where
  pub needed_suc : (i : ℕ) → i < commands_in job.proof → needed_to job (suc i) ≡ needed_to job i + (length (front (block_at job.blocks i)) + 1)
  needed_suc i less =
      let count = is.blocks.count in
      let size = front_count (block_at job.blocks i) in
      let next = needed_next job.blocks i (omega arith) in omega arith

  -- the step that closes a scope is the one that is noted for it
  pub closer_is : (around : Nesting ℕ ℕ) (before : ProofItems ℕ ℕ) (anchor : Anchor ℕ ℕ) (k : ℕ) → IsClosedAt job.proof around before anchor k →
      slice_get job.closers (scope_number (inside around before anchor)) ≡ Some k
  closer_is around before anchor k h = is.closers k (scope_number (inside around before anchor)) (closes_is job.proof k _ h.there)

  pub closer_same : (around : Nesting ℕ ℕ) (before : ProofItems ℕ ℕ) (anchor : Anchor ℕ ℕ) (k : ℕ) → IsClosedAt job.proof around before anchor k →
      closer_of job (inside around before anchor) ≡ k
  closer_same around before anchor k h =
      index_of_get job.closers (scope_number (inside around before anchor)) k (closer_is around before anchor k h)

  pub closer_of_line : (i : ℕ) (around : Nesting ℕ ℕ) (before : ProofItems ℕ ℕ) (anchor : Anchor ℕ ℕ) (items : ProofItems ℕ ℕ) (last : Step ℕ) →
      slice_get (lines_in outermost job.proof) i ≡ Some (record { scope = at (inside around before anchor) items; command = closing last }) →
      closer_of job (inside around before anchor) ≡ i
  closer_of_line i around before anchor items last there =
      index_of_get job.closers (scope_number (inside around before anchor)) i
      (is.closers i (scope_number (inside around before anchor)) (closes_is job.proof i _ there))

  -- what is needed up to the step that closes a scope, with the moved steps of that scope
  room_step : (around : Nesting ℕ ℕ) (before : ProofItems ℕ ℕ) (anchor : Anchor ℕ ℕ) (e k : ℕ) → e ≤ k → IsClosedAt job.proof around before anchor k →
      needed_to job (suc k) + ahead job around ≤ commands_needed job.blocks →
      needed_to job e + ahead job (inside around before anchor) + 1 ≤ commands_needed job.blocks
  room_step around before anchor e k less closed outer =
      let within = slice_get_within (lines_in outermost job.proof) k _ closed.there in
      let lines = lines_in_count outermost job.proof in
      let same = closer_same around before anchor k closed in
      let own = ap (λ j. length (block_at job.blocks j) - 1) same in
      let size = front_length (block_at job.blocks k) in
      let next = needed_suc k (omega arith) in
      let up = needed_more job.blocks e k less in
      omega arith

  -- there is room for what is needed up to an index and for the moved steps of the scopes that are open there
  pub room_of : (n : Nesting ℕ ℕ) (e : ℕ) → Closes job.proof n e → needed_to job e + ahead job n ≤ commands_needed job.blocks
  unfolding Closes
  room_of outermost e h = let whole = needed_whole job.blocks e in omega arith
  room_of (inside around before anchor) e h =
      let more = room_step around before anchor e h.0 h.1 h.2 (room_of around (suc h.0) h.3) in omega arith

  pub room_inside : (around : Nesting ℕ ℕ) (before : ProofItems ℕ ℕ) (anchor : Anchor ℕ ℕ) (e : ℕ) → Closes job.proof (inside around before anchor) e →
      needed_to job e + ahead job (inside around before anchor) + 1 ≤ commands_needed job.blocks
  unfolding Closes
  room_inside around before anchor e h = room_step around before anchor e h.0 h.1 h.2 (room_of around (suc h.0) h.3)
