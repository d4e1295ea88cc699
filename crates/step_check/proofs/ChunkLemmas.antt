-- The statuses of chunks of a proof: where more is known, and of all chunks together.
use Rattle.std.proofs.Common.{◌≡◌, ◌⊎◌, inl, inr, ◌<◌, ◌≤◌, ◌+◌, ◌-◌, ◌*◌, ℕ, suc, List, [], ◌∷◌, length, get_or, slice_get, Some, refl, sym, ◌∙◌, ap, subst, arith}
use Rattle.std.specs.Prelude.{Vec}
use Rattle.std.specs.declared.alloc.Global.{Global}
use Rattle.std.proofs.lemmas.List.{length-append, same_lists}
use Rattle.std.proofs.lemmas.Option.{slice_get-get_or}
use Rattle.rule_model.proofs.Lines.{get_append}
use Rattle.pair_pool.specs.Views.{IsOneToOne}
use Rattle.proof_store.specs.Meaning.{StandForItems}
use Rattle.proof_store.proofs.MeaningLemmas.{items_stay}
use Rattle.rule_model.specs.declared.statuses.Status.{Status}
use Rattle.rule_model.specs.Conditions.{IsClauseOfTruths}
use Rattle.rule_model.specs.Proofs.{ProofItems}
use Rattle.rule_model.specs.Reading.{clause_at}
use Rattle.rule_model.specs.Scopes.{commands_in}
use Rattle.rule_model.specs.Statuses.{Checking, IsStatusAt}
use Rattle.sym_table.specs.Table.{Table, IsTable}
use Rattle.sym_table.proofs.Tables.{keeps_table}
use Rattle.term_model.specs.Terms.{Var, Term}
use Rattle.term_pool.specs.Placing.{LacksCellOf, PlacesCellsOf}
use Rattle.term_pool.specs.StandsFor.{StandsFor}
use Rattle.term_pool.specs.Views.{TermsView, RefersTo, ReferToAll, KeepsTerms}
use Rattle.term_pool.proofs.OneTerm.{one_term}
use Rattle.term_pool.proofs.PlacedCells.{lacks_more, places_more}
use Rattle.term_reader.specs.declared.flags.Flags.{Flags}
use Rattle.worker_crew.specs.Pieces.{Extends, AreAllDone}
use Rattle.step_check.specs.Chunks.{chunks_of, size_of_chunk, statuses_in, CanBeChecked, AreStatusesOfChunk, IsPlacedOfSome}
use Rattle.step_check.specs.Statuses.{AreStatusesOf, IsPlacedOf, LacksRoomForPlaced, PlacesOnly, checking}
use Rattle.step_check.specs.Steps.{IsStatusOf}
use Rattle.step_check.proofs.Growing.{ProofsStay, StandForOne, refer_later, refer_where}

-- ---- where more is known

module _ (s : Table) (v w : TermsView) (more : Extends v w) where
  refers_extends : (r : ℕ) (t : Term) → RefersTo s v r t → RefersTo s w r t
  refers_extends r t h = record { tree = h.tree; known = more.grows r h.tree h.known; stands = h.stands }

  items_extend : (refs : ProofItems ℕ ℕ) (proof : ProofItems Var Term) → StandForItems s v refs proof → StandForItems s w refs proof
  items_extend refs proof h = items_stay s s v w (keeps_table s) refers_extends refs proof h

  refer_extend : (rs : List ℕ) (ts : List Term) → ReferToAll s v rs ts → ReferToAll s w rs ts
  refer_extend = refer_where s v w refers_extends

  pub can_extend : (rs : List ℕ) (refs : ProofItems ℕ ℕ) → CanBeChecked s v rs refs → CanBeChecked s w rs refs
  can_extend rs refs h = record {
    proof = h.proof;
    stand = items_extend refs h.proof h.stand;
    asserted = record { assertions = h.asserted.assertions; refer = refer_extend rs h.asserted.assertions h.asserted.refer };
    short = h.short;
    sorted = h.sorted;
  }

  pub chunk_extends : (flags : Flags) (rs : List ℕ) (refs : ProofItems ℕ ℕ) (k : ℕ) (statuses : List Status) → AreStatusesOfChunk flags s v rs refs k statuses → AreStatusesOfChunk flags s w rs refs k statuses
  chunk_extends flags rs refs k statuses h = record {
    proof = h.proof;
    assertions = h.assertions;
    stand = items_extend refs h.proof h.stand;
    refer = refer_extend rs h.assertions h.refer;
    count = h.count;
    each = h.each;
  }

  pub placed_extends : (refs : ProofItems ℕ ℕ) (t : Term) → IsPlacedOfSome s v refs t → IsPlacedOfSome s w refs t
  placed_extends refs t h = record { proof = h.proof; stand = items_extend refs h.proof h.stand; placed = h.placed }

-- ---- one chunk, of a proof that can be checked

module _ (stay : ProofsStay) (s : Table) (old new : TermsView) (rs : List ℕ) (refs : ProofItems ℕ ℕ) (can : CanBeChecked s old rs refs) where
  -- literals are terms of Bool, whatever proof the references are said to stand for
  pub sorted_of : StandForOne → IsTable s → IsOneToOne old.pass → (of : ProofItems Var Term) (i : ℕ) → StandForItems s old refs of → IsClauseOfTruths (clause_at of i)
  sorted_of one table known of i stand =
      subst (λ p. IsClauseOfTruths (clause_at p i)) (one s old refs can.proof of table known can.stand stand) (can.sorted i)

  stand_later : KeepsTerms old new → StandForItems s new refs can.proof
  stand_later keeps = stay s s old new refs can.proof (keeps_table s) keeps can.stand

  pub chunk_said : KeepsTerms old new → (flags : Flags) (k first : ℕ) (statuses : List Status) → first ≡ 64 * k → length statuses ≡ size_of_chunk (commands_in refs) k
      → ((i : ℕ) (status : Status) → slice_get statuses i ≡ Some status → IsStatusOf flags s old rs refs (first + i) status) → AreStatusesOfChunk flags s new rs refs k statuses
  chunk_said keeps flags k first statuses is count each = record {
    proof = can.proof;
    assertions = can.asserted.assertions;
    stand = stand_later keeps;
    refer = refer_later s old new keeps rs can.asserted.assertions can.asserted.refer;
    count = count;
    each = λ i status e.
        subst (λ m. IsStatusAt (checking flags can.asserted.assertions) can.proof (m + i) status) is
        (each i status e can.proof can.asserted.assertions can.stand can.asserted.refer);
  }

  placed_some : KeepsTerms old new → (t : Term) → IsPlacedOf can.proof t → IsPlacedOfSome s new refs t
  placed_some keeps t h = record { proof = can.proof; stand = stand_later keeps; placed = h }

  pub places_some : KeepsTerms old new → PlacesOnly s old new refs → PlacesCellsOf s old.pass new.pass (IsPlacedOfSome s new refs)
  places_some keeps h = places_more s old.pass new.pass (IsPlacedOf can.proof) (IsPlacedOfSome s new refs) (placed_some keeps) (h can.proof can.stand)

  pub lacks_some : KeepsTerms old new → LacksRoomForPlaced s old new refs → LacksCellOf s new.pass (IsPlacedOfSome s new refs)
  lacks_some keeps h = lacks_more s new.pass (IsPlacedOf can.proof) (IsPlacedOfSome s new refs) (placed_some keeps) (h can.proof can.stand)

-- ---- one proof and the same assertions

module _ (s : Table) (v : TermsView) (table : IsTable s) (known : IsOneToOne v.pass) where
  refers_to_one : (r : ℕ) (t u : Term) → RefersTo s v r t → RefersTo s v r u → t ≡ u
  refers_to_one r t u h k =
      one_term s table k.tree t u (subst (λ z. StandsFor s z t) (known.one_tree r h.tree k.tree h.known k.known) h.stands) k.stands

  refer_to_same : (rs : List ℕ) (ts us : List Term) → ReferToAll s v rs ts → ReferToAll s v rs us → ts ≡ us
  refer_to_same [] [] [] h k = refl
  refer_to_same [] [] (u ∷ us) h k = absurd k
  refer_to_same [] (t ∷ ts) us h k = absurd h
  refer_to_same (r ∷ rs) [] us h k = absurd h
  refer_to_same (r ∷ rs) (t ∷ ts) [] h k = absurd k
  refer_to_same (r ∷ rs) (t ∷ ts) (u ∷ us) h k =
      ap (λ x. x ∷ ts) (refers_to_one r t u h.0 k.0) ∙ ap (λ xs. u ∷ xs) (refer_to_same rs ts us h.1 k.1)

  chunk_for : StandForOne → (flags : Flags) (rs : List ℕ) (refs : ProofItems ℕ ℕ) (proof : ProofItems Var Term) (assertions : List Term) → StandForItems s v refs proof → ReferToAll s v rs assertions
      → (k : ℕ) (statuses : List Status) → AreStatusesOfChunk flags s v rs refs k statuses
      → (i : ℕ) (status : Status) → slice_get statuses i ≡ Some status → IsStatusAt (checking flags assertions) proof (64 * k + i) status
  chunk_for one flags rs refs proof assertions stand refer k statuses h i status e =
      subst (λ p. IsStatusAt (checking flags assertions) p (64 * k + i) status) (one s v refs h.proof proof table known h.stand stand)
      (subst (λ ts. IsStatusAt (checking flags ts) h.proof (64 * k + i) status) (refer_to_same rs h.assertions assertions h.refer refer) (h.each i status e))

  -- a chunk has one piece
  pub one_piece : StandForOne → ((c : Checking) (proof : ProofItems Var Term) (i : ℕ) (x y : Status) → IsStatusAt c proof i x → IsStatusAt c proof i y → x ≡ y)
      → (flags : Flags) (rs : List ℕ) (refs : ProofItems ℕ ℕ) (k : ℕ) (piece other : List Status) → AreStatusesOfChunk flags s v rs refs k piece → AreStatusesOfChunk flags s v rs refs k other → piece ≡ other
  one_piece one status flags rs refs k piece other h g =
      let long : length piece ≡ length other = h.count ∙ sym g.count in
      same_lists piece other long (λ i d below.
      status (checking flags h.assertions) h.proof (64 * k + i) (get_or piece i d) (get_or other i d) (h.each i (get_or piece i d) (slice_get-get_or piece i d below))
      (chunk_for one flags rs refs h.proof h.assertions h.stand h.refer k other g i (get_or other i d) (slice_get-get_or other i d (omega (arith, below, long)))))

-- ---- the pieces of all chunks

past_chunks : (n k : ℕ) → chunks_of n ≤ k → n ≤ 64 * k
past_chunks n k h = omega (arith, h)

in_chunks : (n k : ℕ) → k < chunks_of n → 64 * k < n
in_chunks n k h = omega (arith, h)

-- the statuses of chunk k of so many commands
record ArePiece (P : ℕ → Status → Type 0) (n k : ℕ) (statuses : List Status) : Type 0 where
  before_end : 64 * k < n
  count : length statuses ≡ size_of_chunk n k
  each : (i : ℕ) (status : Status) → slice_get statuses i ≡ Some status → P (64 * k + i) status

module _ (P : ℕ → Status → Type 0) (n : ℕ) where
  -- pieces of all chunks from chunk k on
  abbrev AreFrom : ℕ → List (Vec Status Global) → Type 0
  AreFrom k [] = n ≤ 64 * k
  AreFrom k (p ∷ ps) = ArePiece P n k p.items × AreFrom (k + 1) ps

  length_from : (k : ℕ) (ps : List (Vec Status Global)) → AreFrom k ps → length (statuses_in ps) ≡ n - 64 * k
  length_from k [] h = omega (arith, h)
  length_from k (p ∷ ps) h =
      let whole = length-append p.items (statuses_in ps) in
      let rest = length_from (k + 1) ps h.1 in
      let inside = h.0.before_end in
      let count = h.0.count in
      omega (arith, whole, rest, inside, count)

  -- a chunk behind which another comes is full
  full_before : (k : ℕ) (p q : Vec Status Global) → ArePiece P n k p.items → ArePiece P n (k + 1) q.items → length p.items ≡ 64
  full_before k p q one next = let count = one.count in let inside = next.before_end in omega (arith, count, inside)

  each_from : (k : ℕ) (ps : List (Vec Status Global)) → AreFrom k ps → (i : ℕ) (status : Status) → slice_get (statuses_in ps) i ≡ Some status → P (64 * k + i) status
  each_from k [] h i status e = absurd cc
  each_from k (p ∷ ps) h i status e = go (λ j. each_from (k + 1) ps h.1 j status) (get_append p.items (statuses_in ps) i status e)
    where
      full : (qs : List (Vec Status Global)) → AreFrom (k + 1) qs → (j : ℕ) → slice_get (statuses_in qs) j ≡ Some status → length p.items ≡ 64
      full [] g j f = absurd cc
      full (q ∷ qs) g j f = full_before k p q h.0 g.0

      go : ((j : ℕ) → slice_get (statuses_in ps) j ≡ Some status → P (64 * (k + 1) + j) status)
          → ((i < length p.items) × (slice_get p.items i ≡ Some status)) ⊎ ((length p.items ≤ i) × (slice_get (statuses_in ps) (i - length p.items) ≡ Some status)) → P (64 * k + i) status
      go later (inl found) = h.0.each i status found.1
      go later (inr found) =
          let long = full ps h.1 (i - length p.items) found.1 in
          let after = found.0 in
          let at : 64 * (k + 1) + (i - length p.items) ≡ 64 * k + i = omega (arith, long, after) in
          subst (λ m. P m status) at (later (i - length p.items) found.1)

module _ (P : ℕ → Status → Type 0) (n : ℕ) (S : ℕ → Vec Status Global → Type 0) (tells : (k : ℕ) (p : Vec Status Global) → k < chunks_of n → S k p → ArePiece P n k p.items) where
  are_from : (k : ℕ) (ps : List (Vec Status Global)) → k + length ps ≡ chunks_of n → ((j : ℕ) (d : Vec Status Global) → j < length ps → S (k + j) (get_or ps j d)) → AreFrom P n k ps
  are_from k [] long each = past_chunks n k (omega (arith, long))
  are_from k (p ∷ ps) long each =
      let first : k + 0 ≡ k = omega arith in (
        tells k p (omega (arith, long)) (subst (λ m. S m p) first (each 0 p (omega arith))),
        are_from (k + 1) ps (omega (arith, long))
            (λ j d below. let next : k + suc j ≡ k + 1 + j = omega arith in subst (λ m. S m (get_or ps j d)) next (each (suc j) d (omega (arith, below)))),
      )

module _ (one : StandForOne) (stay : ProofsStay) (s : Table) (old new : TermsView) (refs : ProofItems ℕ ℕ) (table : IsTable s) (known : IsOneToOne new.pass) (keeps : KeepsTerms old new) where
  later : (proof : ProofItems Var Term) → StandForItems s old refs proof → StandForItems s new refs proof
  later proof stand = stay s s old new refs proof (keeps_table s) keeps stand

  pub statuses_of_chunks : ((proof : ProofItems Var Term) → StandForItems s old refs proof → commands_in refs ≡ commands_in proof) → (flags : Flags) (rs : List ℕ) (pieces : List (Vec Status Global))
      → AreAllDone (λ k (piece : Vec Status Global). AreStatusesOfChunk flags s new rs refs k piece.items) (chunks_of (commands_in refs)) pieces
      → AreStatusesOf flags s old rs refs (statuses_in pieces)
  statuses_of_chunks same flags rs pieces done proof assertions stand refer =
      let P = IsStatusAt (checking flags assertions) proof in
      let n = commands_in refs in
      let S = λ (k : ℕ) (piece : Vec Status Global). AreStatusesOfChunk flags s new rs refs k piece.items in
      let told = λ (k : ℕ) (p : Vec Status Global) (inside : k < chunks_of n) (h : AreStatusesOfChunk flags s new rs refs k p.items).
      chunk_for s new table known one flags rs refs proof assertions (later proof stand) (refer_later s old new keeps rs assertions refer) k p.items h in
      let long = done.one_each in
      let all : AreFrom P n 0 pieces = are_from P n S (λ k p inside h. record { before_end = in_chunks n k inside; count = h.count; each = told k p inside h }) 0 pieces (omega (arith, long))
      (λ j d below. let at : j ≡ 0 + j = omega arith in subst (λ m. S m (get_or pieces j d)) at (done.say j d (omega (arith, below, long)))) in
      record {
        count = let sum = length_from P n 0 pieces all in let whole = same proof stand in omega (arith, sum, whole);
        each = λ i status e. let at : 64 * 0 + i ≡ i = omega arith in subst (λ m. P m status) at (each_from P n 0 pieces all i status e);
      }

  -- of one proof
  placed_of_one : (proof : ProofItems Var Term) → StandForItems s old refs proof → (t : Term) → IsPlacedOfSome s new refs t → IsPlacedOf proof t
  placed_of_one proof stand t h = subst (λ p. IsPlacedOf p t) (one s new refs h.proof proof table known h.stand (later proof stand)) h.placed

  pub places_of_chunks : PlacesCellsOf s old.pass new.pass (IsPlacedOfSome s new refs) → PlacesOnly s old new refs
  places_of_chunks h proof stand = places_more s old.pass new.pass (IsPlacedOfSome s new refs) (IsPlacedOf proof) (placed_of_one proof stand) h

  pub lacks_of_chunks : LacksCellOf s new.pass (IsPlacedOfSome s new refs) → LacksRoomForPlaced s old new refs
  lacks_of_chunks h proof stand = lacks_more s new.pass (IsPlacedOfSome s new refs) (IsPlacedOf proof) (placed_of_one proof stand) h
