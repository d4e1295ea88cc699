-- What was read stays so as the pool comes to know more, and what is made of it is of the two texts.
use Rattle.std.proofs.Common.{◌≡◌, ◌⊎◌, inl, inr, ℕ, ◌^◌, List, Some, sym, subst}
use Rattle.std.specs.Prelude.{All}
use Rattle.std.proofs.lemmas.List.Elements.{All-weaker}
use Rattle.pair_pool.specs.Views.{PassView, IsOneToOne, HasListsInOrder}
use Rattle.sym_table.specs.Table.{Table, IsTable, Keeps}
use Rattle.sym_table.proofs.Tables.{keeps_table}
use Rattle.term_model.specs.Terms.{Var, Term}
use Rattle.term_model.proofs.Zips.{zip_weaken}
use Rattle.term_pool.specs.Placing.{LacksCellOf, PlacesCellsOf}
use Rattle.term_pool.specs.Views.{TermsView, RefersTo, ReferToAll, KeepsPass, KeepsTerms}
use Rattle.term_pool.proofs.OneTerm.{one_term}
use Rattle.term_pool.proofs.PlacedCells.{lacks_more}
use Rattle.term_reader.specs.declared.flags.Flags.{Flags}
use Rattle.proof_store.specs.Meaning.{StandForItems}
use Rattle.rule_model.specs.declared.statuses.Status.{Status}
use Rattle.rule_model.specs.declared.statuses.Verdict.{Verdict}
use Rattle.rule_model.specs.Proofs.{ProofItems}
use Rattle.rule_model.specs.Statuses.{AreStatuses, IsVerdict, Passes}
use Rattle.step_check.specs.Chunks.{CanBeChecked}
use Rattle.step_check.specs.Statuses.{AreStatusesOf, IsPlacedOf, LacksRoomForPlaced, PlacesOnly, checking}
use Rattle.elaboration_laws.proofs.Ones.{one_clause}
use Rattle.elaboration.specs.Elaborated.{in_strict_mode, IsPlacedFor, IsTooLong}
use Rattle.command_words.specs.declared.request.Options.{Options}
use Rattle.judged_texts.specs.declared.judgement.Judgement.{Judgement}
use Rattle.judged_texts.specs.declared.judgement.Judgement.TheVariants.{Valid, Holey, NoEmptyClause, Faulty, TooWide, RefusedProblem, RefusedProof, PoolFull}
use Rattle.elaborated_texts.specs.declared.making.Made.{Made}
use Rattle.elaborated_texts.specs.declared.making.Made.TheVariants as made
use Rattle.judged_texts.specs.declared.texts.Both.{Both}
use Rattle.judged_texts.specs.Naming.{NamesIds}
use Rattle.judged_texts.specs.Cells.{HasMoreCells}
use Rattle.elaborated_texts.specs.Elaborated.{IsJudgementInstead, IsMadeFor, IsStatusOfPrinted, NeedsRoomToElaborate, StrictReading}
use Rattle.judged_texts.specs.Judging.{IsJudgedProof}
use Rattle.elaborated_texts.specs.Making.{IsMade, IsMadeBy, IsWholeMade}
use Rattle.judged_texts.specs.Pools.{HoldsOnly}
use Rattle.judged_texts.specs.Reading.{IsReadOf, NeedsRoom}
use Rattle.elaborated_texts.specs.Statuses.{IsPrintedOf}
use Rattle.judged_texts.specs.Texts.{flags_of, IsReadProof}
use Rattle.judged_texts.proofs.CellLemmas.{has_more_cells, holds_kind, holds_more, more_cells_of}

-- the laws of `proof_store`
abbrev pub ProofsStay : Type 0
ProofsStay =
    (s z : Table) (v w : TermsView) (refs : ProofItems ℕ ℕ) (proof : ProofItems Var Term) → Keeps s z → KeepsTerms v w → StandForItems s v refs proof
    → StandForItems z w refs proof

abbrev pub StandForOne : Type 0
StandForOne =
    (s : Table) (v : TermsView) (refs : ProofItems ℕ ℕ) (p q : ProofItems Var Term) → IsTable s → IsOneToOne v.pass → StandForItems s v refs p
    → StandForItems s v refs q → p ≡ q

-- ---- as the pool comes to know more

module _ (stay : ProofsStay) (s : Table) (v w : TermsView) (keeps : KeepsTerms v w) (asserted : List ℕ) (refs : ProofItems ℕ ℕ) where
  refers_later : (r : ℕ) (t : Term) → RefersTo s v r t → RefersTo s w r t
  refers_later r t h = record { tree = h.tree; known = keeps.pass.grows r h.tree h.known; stands = h.stands }

  pub refer_later : (ts : List Term) → ReferToAll s v asserted ts → ReferToAll s w asserted ts
  refer_later ts h = zip_weaken (RefersTo s v) (RefersTo s w) refers_later asserted ts h

  pub stand_later : (proof : ProofItems Var Term) → StandForItems s v refs proof → StandForItems s w refs proof
  stand_later proof h = stay s s v w refs proof (keeps_table s) keeps h

  pub can_later : CanBeChecked s v asserted refs → CanBeChecked s w asserted refs
  can_later h = record {
    proof = h.proof;
    stand = stand_later h.proof h.stand;
    asserted = record { assertions = h.asserted.assertions; refer = refer_later h.asserted.assertions h.asserted.refer };
    short = h.short;
    sorted = h.sorted;
  }

  abbrev pub read_later : (problem : List ℕ) (options : Options) (text : List ℕ) → IsReadProof problem options text s v asserted refs
      → IsReadProof problem options text s w asserted refs
  read_later problem options text h = record {
    script = h.script;
    problem_text = h.problem_text;
    assertions = refer_later h.script.assertions h.assertions;
    read = record { proof = h.read.proof; after = h.read.after; stands = h.read.stands; refer = stand_later h.read.proof h.read.refer };
  }

  pub statuses_later : StandForOne → IsTable s → IsOneToOne w.pass → CanBeChecked s v asserted refs → (flags : Flags) (statuses : List Status)
      → AreStatusesOf flags s v asserted refs statuses → AreStatusesOf flags s w asserted refs statuses
  statuses_later one table known can flags statuses are proof assertions stand refer =
      let p = can.proof in
      let listed = can.asserted.assertions in
      let same : p ≡ proof = one s w refs p proof table known (stand_later p can.stand) stand in
      let list : listed ≡ assertions = one_clause s w known (one_term s table) asserted listed assertions (refer_later listed can.asserted.refer) refer in
      subst (λ q. AreStatuses (checking flags assertions) q statuses) same
      (subst (λ ts. AreStatuses (checking flags ts) p statuses) list (are p listed can.stand can.asserted.refer))

  pub judged_later : StandForOne → IsTable s → IsOneToOne w.pass → CanBeChecked s v asserted refs → (flags : Flags) (j : Judgement)
      → IsJudgedProof flags s v asserted refs j → IsJudgedProof flags s w asserted refs j
  judged_later one table known can flags j h = record {
    statuses = h.statuses;
    of = h.of;
    are = statuses_later one table known can flags h.statuses h.are;
    verdict = h.verdict;
    named = h.named;
  }

-- ---- a judgement whose proof is elaborated

all_ok : (statuses : List Status) → All (λ z. z ≡ Status.Ok) statuses → All Passes statuses
all_ok statuses h = All-weaker (λ z. z ≡ Status.Ok) Passes (λ z e. subst Passes (sym e) tt) statuses h

module _ (statuses : List Status) (refs : ProofItems ℕ ℕ) (of : Verdict) (status : ℕ) where
  pub all_pass : (j : Judgement) → IsPrintedOf j (Some status) → NamesIds statuses refs of j → IsVerdict statuses refs of → All Passes statuses
  all_pass Valid printed named h = let is : IsVerdict statuses refs Verdict.Valid = subst (IsVerdict statuses refs) named h in all_ok statuses is.0
  all_pass (Holey holes) printed named h = let is : IsVerdict statuses refs Verdict.Holey = subst (IsVerdict statuses refs) named.0 h in is.0
  all_pass NoEmptyClause printed named h = absurd (cc)
  all_pass (Faulty id cause) printed named h = absurd (cc)
  all_pass (TooWide id) printed named h = absurd (cc)
  all_pass (RefusedProblem r) printed named h = absurd named
  all_pass (RefusedProof r) printed named h = absurd named
  all_pass PoolFull printed named h = absurd named

  pub status_of_verdict : (j : Judgement) → IsPrintedOf j (Some status) → NamesIds statuses refs of j → IsStatusOfPrinted of status
  status_of_verdict Valid printed named = let is : status ≡ 0 = cc in subst (λ u. IsStatusOfPrinted u status) (sym named) is
  status_of_verdict (Holey holes) printed named = let is : status ≡ 2 = cc in subst (λ u. IsStatusOfPrinted u status) (sym named.0) is
  status_of_verdict NoEmptyClause printed named = absurd (cc)
  status_of_verdict (Faulty id cause) printed named = absurd (cc)
  status_of_verdict (TooWide id) printed named = absurd (cc)
  status_of_verdict (RefusedProblem r) printed named = absurd named
  status_of_verdict (RefusedProof r) printed named = absurd named
  status_of_verdict PoolFull printed named = absurd named

-- ---- what the check of a proof places

pub holds_read : (problem : List ℕ) (options : Options) (text : List ℕ) (s : Table) (pass : PassView) → HoldsOnly s pass (IsReadOf problem options text)
    → HoldsOnly s pass (NeedsRoom problem options text)
holds_read problem options text s pass holds = holds_kind s pass (IsReadOf problem options text) (NeedsRoom problem options text) (λ u h. inl h) holds

module _ (problem : List ℕ) (options : Options) (text : List ℕ) (s : Table) (v w : TermsView) (asserted : List ℕ) (refs : ProofItems ℕ ℕ)
    (read : IsReadProof problem options text s v asserted refs) where
  needed : (t : Term) → IsPlacedOf read.read.proof t → NeedsRoom problem options text t
  needed t h = inr (record {
    script = read.script;
    commands = read.read.proof;
    after = read.read.after;
    problem_text = read.problem_text;
    proof_text = read.read.stands;
    placed = h;
  })

  pub holds_checked : KeepsPass v.pass w.pass → HoldsOnly s v.pass (NeedsRoom problem options text) → PlacesOnly s v w refs
      → HoldsOnly s w.pass (NeedsRoom problem options text)
  holds_checked keeps holds placed =
      holds_more s s v.pass w.pass (IsPlacedOf read.read.proof) (NeedsRoom problem options text) needed (keeps_table s) keeps holds
      (placed read.read.proof read.read.refer)

  pub full_checked : IsTable s → IsOneToOne w.pass → HasListsInOrder w.pass → (bits : ℕ) → w.pass.shares ≡ 65 → w.pass.places ≡ 2 ^ bits
      → HoldsOnly s w.pass (NeedsRoom problem options text) → LacksRoomForPlaced s v w refs → IsJudgementInstead problem options text bits PoolFull
  full_checked table known order bits shares places holds lacks =
      let Q : Term → Type 0 = NeedsRoom problem options text in
      let there : LacksCellOf s w.pass Q = lacks_more s w.pass (IsPlacedOf read.read.proof) Q needed (lacks read.read.proof read.read.refer) in
      let cells : HasMoreCells Q (2 ^ bits) = has_more_cells s w.pass Q table shares known order holds there (2 ^ bits) places in
      inl (more_cells_of Q (NeedsRoomToElaborate problem options text) (2 ^ bits) (λ u h. inl h) cells)

-- ---- what is made of a proof that was read

module _ (problem : List ℕ) (options : Options) (text : List ℕ) (s : Table) (table : IsTable s) (v : TermsView)
    (known : IsOneToOne v.pass) (both : Both) (read : IsReadProof problem options text s v both.problem.assertions both.proof) (strict : List Status)
    (are : AreStatusesOf (in_strict_mode (flags_of options)) s v both.problem.assertions both.proof strict) where
  abbrev refs : ProofItems ℕ ℕ
  refs = both.proof

  abbrev asserted : List ℕ
  asserted = both.problem.assertions

  abbrev reading : StrictReading problem options text
  reading = record {
    symbols = s;
    is_table = table;
    terms = v;
    one_to_one = known;
    assertions = both.problem.assertions;
    commands = both.proof;
    read = read;
    strict = strict;
    are = are;
  }

  made_for : (t : Term) → IsPlacedFor s v asserted refs strict t → IsMadeFor problem options text t
  made_for t h = record { reading = reading; placed = h }

  pub holds_made : (w : TermsView) → KeepsPass w.pass v.pass → HoldsOnly s w.pass (NeedsRoom problem options text)
      → PlacesCellsOf s w.pass v.pass (IsPlacedFor s v asserted refs strict) → HoldsOnly s v.pass (NeedsRoomToElaborate problem options text)
  holds_made w keeps holds placed =
      let Q : Term → Type 0 = NeedsRoomToElaborate problem options text in
      let held : HoldsOnly s w.pass Q = holds_kind s w.pass (NeedsRoom problem options text) Q (λ u h. inl h) holds in
      holds_more s s w.pass v.pass (IsPlacedFor s v asserted refs strict) Q (λ u h. inr (made_for u h)) (keeps_table s) keeps held placed

  module _ (j : Judgement) (status : ℕ) (printed : IsPrintedOf j (Some status)) (judged : IsJudgedProof (flags_of options) s v asserted refs j) where
    says : IsStatusOfPrinted judged.of status
    says = status_of_verdict judged.statuses refs judged.of status j printed judged.named

    pub whole_made : (m : Made) → IsMadeBy (flags_of options) s v asserted refs strict status m → IsWholeMade problem options text s v both m
    whole_made (made.Whole new st) h = record {
      verdict = judged.of;
      is_status = subst (IsStatusOfPrinted judged.of) (sym h.0) says;
      read = read;
      statuses = judged.statuses;
      are = judged.are;
      of = judged.verdict;
      is = h.1;
      over = h.2;
    }
    whole_made (made.Instead i) h = tt

    module _ (bits : ℕ) where
      full : HasListsInOrder v.pass → v.pass.shares ≡ 65 → v.pass.places ≡ 2 ^ bits → HoldsOnly s v.pass (NeedsRoomToElaborate problem options text)
          → IsTooLong s v asserted refs strict ⊎ LacksCellOf s v.pass (IsPlacedFor s v asserted refs strict)
          → IsJudgementInstead problem options text bits PoolFull
      full order shares places holds (inl long) = inr (record { reading = reading; long = long })
      full order shares places holds (inr lacks) =
          let P : Term → Type 0 = IsPlacedFor s v asserted refs strict in
          let Q : Term → Type 0 = NeedsRoomToElaborate problem options text in
          inl (has_more_cells s v.pass Q table shares known order holds (lacks_more s v.pass P Q (λ u h. inr (made_for u h)) lacks) (2 ^ bits) places)

      pub is_made : v.pass.shares ≡ 65 → v.pass.places ≡ 2 ^ bits → HoldsOnly s v.pass (NeedsRoomToElaborate problem options text) → (m : Made)
          → IsMadeBy (flags_of options) s v asserted refs strict status m → IsMade problem options text bits s v both m
      is_made shares places holds (made.Whole new st) h = whole_made (made.Whole new st) h
      is_made shares places holds (made.Instead i) h =
          subst (IsJudgementInstead problem options text bits) (sym h.0) (full h.3 shares places holds h.4)
