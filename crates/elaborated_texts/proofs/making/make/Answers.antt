use Rattle.std.proofs.Common.{◌∙◌, None, Some}
use Rattle.std.specs.Prelude.{IfOk}
use Rattle.std.proofs.lemmas.Result.{IfOk-weaker}
use Rattle.term_pool.specs.Placing.{PlacesCellsOf}
use Rattle.term_pool.proofs.Keeping.{terms-trans}
use Rattle.step_check.specs.Chunks.{CanBeChecked}
use Rattle.step_check.specs.Statuses.{AreStatusesOf, LacksRoomForPlaced, PlacesOnly}
use Rattle.elaboration.specs.Elaborated.{in_strict_mode, IsPlacedFor, PassAll}
use Rattle.judged_texts.specs.Judging.{IsJudgedProof}
use Rattle.elaborated_texts.specs.Making.{IsMadeBy}
use Rattle.elaborated_texts.specs.Statuses.{IsPrintedOf}
use Rattle.judged_texts.specs.Texts.{flags_of}
use Rattle.judged_texts.proofs.JudgementLemmas.{judged_proof}
use Rattle.elaborated_texts.proofs.MadeLemmas.{all_pass, can_later, full_checked, holds_checked, holds_made, holds_read, is_made, judged_later, read_later}
use Rattle.elaborated_texts.proofs.MadeLemmas.{statuses_later, whole_made}
use Rattle.elaborated_texts.proofs.TextsInstead.{judged_instead}
use Rattle.elaborated_texts.proofs.making.make.Goals as goal

pub judge_commands-requires-clause-can : goal.judge_commands-requires-clause-can
judge_commands-requires-clause-can g c =
    let t = c.args.texts.now in
    let both = c.args.both.now in
    let can : CanBeChecked c.args.symbols.now c.args.terms.now both.problem.assertions both.proof =
    c.read_proofs_can_be_checked.ensures t.problem.now t.options t.proof.now c.args.symbols.now c.args.terms.now both.problem.assertions both.proof
    c.requires.read.read c.requires.size in
    rw (c.job-check.ensures.proof, c.job-check.ensures.problem, c.job-check.ensures.symbols) (λ lives longer. can)

-- what the check places is of the proof that was read
pub returns-in-Err-PoolFull-clause-made : goal.returns-in-Err-PoolFull-clause-made
returns-in-Err-PoolFull-clause-made g c = λ bits places.
    let t = c.args.texts.now in
    let both = c.args.both.now in
    let asserted = both.problem.assertions in
    let refs = both.proof in
    let s = c.args.symbols.now in
    let v = c.args.terms.now in
    let w = c.judge_commands.new.terms in
    let keeps = c.judge_commands.ensures.keeps in
    let read = c.requires.read.read in
    let placed : PlacesOnly s v w refs = rw (c.job-check.ensures.symbols, c.job-check.ensures.proof) at c.judge_commands.ensures.placed in
    let lacks : LacksRoomForPlaced s v w refs =
    rw (c.job-check.ensures.symbols, c.job-check.ensures.proof) at (c.in-Err-PoolFull.ensures.full c.in-Err-PoolFull.field-0-is) in
    let held = holds_read t.problem.now t.options t.proof.now s v.pass c.requires.holds in
    let holds = holds_checked t.problem.now t.options t.proof.now s v w asserted refs read keeps.pass held placed in
    rw c.pool_full.ensures.full (full_checked t.problem.now t.options t.proof.now s v w asserted refs read c.pool_full.ensures.table
    c.pool_full.ensures.one_reference c.pool_full.ensures.in_order bits (keeps.pass.shares ∙ c.requires.shares) (keeps.pass.places ∙ places) holds lacks)

-- a judgement of which no elaboration is printed
pub returns-in_default-clause-made : goal.returns-in_default-clause-made
returns-in_default-clause-made g c = λ bits places.
    let t = c.args.texts.now in
    let both = c.args.both.now in
    let read = c.requires.read.read in
    let s = c.args.symbols.now in
    let same = c.proofs_correspond.ensures s c.args.terms.now both.proof read.read.proof read.read.refer in
    let judged : IsJudgedProof (flags_of t.options) s c.args.terms.now both.problem.assertions both.proof c.in-Ok.judgement =
    rw (c.job-check.ensures.flags, c.flags_of-flags.ensures, c.job-check.ensures.symbols, c.job-check.ensures.problem, c.job-check.ensures.proof)
    at c.in-Ok.ensures.judged in
    let none : IsPrintedOf c.in-Ok.judgement None = rw c.in_default.is at c.status_of_printed.ensures in
    judged_instead t.problem.now t.options t.proof.now bits c.in-Ok.judgement none
    (judged_proof t.problem.now t.options t.proof.now bits s c.args.terms.now both.problem.assertions both.proof read same c.in-Ok.judgement judged)

pub statuses_of-requires-clause-can : goal.statuses_of-requires-clause-can
statuses_of-requires-clause-can g c =
    let t = c.args.texts.now in
    let both = c.args.both.now in
    let s = c.args.symbols.now in
    let can = c.read_proofs_can_be_checked.ensures t.problem.now t.options t.proof.now s c.args.terms.now both.problem.assertions both.proof
    c.requires.read.read c.requires.size in
    let later : CanBeChecked s c.judge_commands.new.terms both.problem.assertions both.proof =
    can_later c.proofs_stay.ensures s c.args.terms.now c.judge_commands.new.terms c.judge_commands.ensures.keeps both.problem.assertions both.proof can in
    rw (c.job-strict_check.ensures.proof, c.job-strict_check.ensures.problem, c.job-strict_check.ensures.symbols) (λ lives longer. later)

-- ---- behind the check

-- the check in strict mode places what the check in check mode may place
pub returns-in-Err-PoolFull-statuses_of-clause-made : goal.returns-in-Err-PoolFull-statuses_of-clause-made
returns-in-Err-PoolFull-statuses_of-clause-made g c = λ bits places.
    let t = c.args.texts.now in
    let both = c.args.both.now in
    let refs = both.proof in
    let s = c.args.symbols.now in
    let v = c.args.terms.now in
    let w = c.judge_commands.new.terms in
    let z = c.statuses_of.new.terms in
    let keeps = c.judge_commands.ensures.keeps in
    let next = c.statuses_of.ensures.keeps in
    let first : PlacesOnly s v w refs = rw (c.job-check.ensures.symbols, c.job-check.ensures.proof) at c.judge_commands.ensures.placed in
    let second : PlacesOnly s w z refs = rw (c.job-strict_check.ensures.symbols, c.job-strict_check.ensures.proof) at c.statuses_of.ensures.placed in
    let stop = c.in-Err-PoolFull-statuses_of in
    let ends = c.pool_full-in-Err-PoolFull-statuses_of.ensures in
    let lacks : LacksRoomForPlaced s w z refs =
    rw (c.job-strict_check.ensures.symbols, c.job-strict_check.ensures.proof) at (stop.ensures.full stop.field-0-is) in
    let read = c.requires.read.read in
    let there = read_later c.proofs_stay.ensures s v w keeps both.problem.assertions refs t.problem.now t.options t.proof.now read in
    let held = holds_read t.problem.now t.options t.proof.now s v.pass c.requires.holds in
    let holds = holds_checked t.problem.now t.options t.proof.now s v w both.problem.assertions refs read keeps.pass held first in
    let more = holds_checked t.problem.now t.options t.proof.now s w z both.problem.assertions refs there next.pass holds second in
    rw ends.full (full_checked t.problem.now t.options t.proof.now s w z both.problem.assertions refs there ends.table
    ends.one_reference ends.in_order bits (next.pass.shares ∙ (keeps.pass.shares ∙ c.requires.shares))
    (next.pass.places ∙ (keeps.pass.places ∙ places)) more lacks)

pub elaborated_by-made-requires-clause-can : goal.elaborated_by-made-requires-clause-can
elaborated_by-made-requires-clause-can g c =
    let t = c.args.texts.now in
    let both = c.args.both.now in
    let s = c.args.symbols.now in
    let can = c.read_proofs_can_be_checked.ensures t.problem.now t.options t.proof.now s c.args.terms.now both.problem.assertions both.proof
    c.requires.read.read c.requires.size in
    let later : CanBeChecked s c.statuses_of.new.terms both.problem.assertions both.proof =
    can_later c.proofs_stay.ensures s c.args.terms.now c.statuses_of.new.terms
    (terms-trans c.args.terms.now c.judge_commands.new.terms c.statuses_of.new.terms c.judge_commands.ensures.keeps c.statuses_of.ensures.keeps)
    both.problem.assertions both.proof can in
    λ lives longer. later

pub elaborated_by-made-requires-clause-check : goal.elaborated_by-made-requires-clause-check
elaborated_by-made-requires-clause-check g c = rw c.flags_of-flags.ensures (λ lives longer. c.requires.check)

pub elaborated_by-made-requires-clause-passes : goal.elaborated_by-made-requires-clause-passes
elaborated_by-made-requires-clause-passes g c =
    let t = c.args.texts.now in
    let both = c.args.both.now in
    let s = c.args.symbols.now in
    let v = c.args.terms.now in
    let z = c.statuses_of.new.terms in
    let read = c.requires.read.read in
    let can = c.read_proofs_can_be_checked.ensures t.problem.now t.options t.proof.now s v both.problem.assertions both.proof read c.requires.size in
    let judged : IsJudgedProof (flags_of t.options) s v both.problem.assertions both.proof c.in-Ok.judgement =
    rw (c.job-check.ensures.flags, c.flags_of-flags.ensures, c.job-check.ensures.symbols, c.job-check.ensures.problem, c.job-check.ensures.proof)
    at c.in-Ok.ensures.judged in
    let printed : IsPrintedOf c.in-Ok.judgement (Some c.in-Some.status) = c.in-Some.ensures in
    let passes : PassAll (flags_of t.options) s z both.problem.assertions both.proof = record {
      statuses = judged.statuses;
      are = statuses_later c.proofs_stay.ensures s v z
          (terms-trans v c.judge_commands.new.terms z c.judge_commands.ensures.keeps c.statuses_of.ensures.keeps) both.problem.assertions both.proof
          c.proofs_stand_for_one.ensures.one c.leaves_differ.ensures.table c.one_to_one.ensures can (flags_of t.options) judged.statuses judged.are;
      pass = all_pass judged.statuses both.proof judged.of c.in-Some.status c.in-Ok.judgement printed judged.named judged.verdict;
    } in
    rw c.flags_of-flags.ensures (λ lives longer. passes)

pub elaborated_by-made-requires-clause-strict : goal.elaborated_by-made-requires-clause-strict
elaborated_by-made-requires-clause-strict g c =
    let t = c.args.texts.now in
    let both = c.args.both.now in
    let s = c.args.symbols.now in
    let v = c.args.terms.now in
    let w = c.judge_commands.new.terms in
    let z = c.statuses_of.new.terms in
    let read = c.requires.read.read in
    let can = c.read_proofs_can_be_checked.ensures t.problem.now t.options t.proof.now s v both.problem.assertions both.proof read c.requires.size in
    let there = can_later c.proofs_stay.ensures s v w c.judge_commands.ensures.keeps both.problem.assertions both.proof can in
    let are : AreStatusesOf (in_strict_mode (flags_of t.options)) s w both.problem.assertions both.proof c.in-Ok-statuses_of.strict.items =
    rw (
      c.job-strict_check.ensures.flags,
      c.strictly.ensures,
      c.flags_of-flags.ensures,
      c.job-strict_check.ensures.symbols,
      c.job-strict_check.ensures.problem,
      c.job-strict_check.ensures.proof,
    ) at c.in-Ok-statuses_of.ensures.statuses in
    rw (c.deref.ensures.value, c.flags_of-flags.ensures)
    (λ lives longer. statuses_later c.proofs_stay.ensures s w z c.statuses_of.ensures.keeps both.problem.assertions both.proof c.proofs_stand_for_one.ensures.one
    c.leaves_differ.ensures.table c.one_to_one.ensures there (in_strict_mode (flags_of t.options)) c.in-Ok-statuses_of.strict.items are)

pub elaborated_by-made-requires-clause-sorted : goal.elaborated_by-made-requires-clause-sorted
elaborated_by-made-requires-clause-sorted g c =
    let t = c.args.texts.now in
    let both = c.args.both.now in
    let s = c.args.symbols.now in
    let v = c.args.terms.now in
    let z = c.statuses_of.new.terms in
    let all = terms-trans v c.judge_commands.new.terms z c.judge_commands.ensures.keeps c.statuses_of.ensures.keeps in
    let read = read_later c.proofs_stay.ensures s v z all both.problem.assertions both.proof t.problem.now t.options t.proof.now c.requires.read.read in
    let sorted = c.read_proofs_are_well_sorted.ensures t.problem.now t.options t.proof.now s z both.problem.assertions both.proof
    c.leaves_differ.ensures.table c.one_to_one.ensures read in
    λ lives longer. sorted

-- ---- what is made of it

pub returns-clause-made : goal.returns-clause-made
returns-clause-made g c = λ bits places.
    let t = c.args.texts.now in
    let both = c.args.both.now in
    let refs = both.proof in
    let asserted = both.problem.assertions in
    let s = c.args.symbols.now in
    let v = c.args.terms.now in
    let w = c.judge_commands.new.terms in
    let z = c.statuses_of.new.terms in
    let y = c.elaborated_by-made.new.terms in
    let strict = c.in-Ok-statuses_of.strict.items in
    let flags = flags_of t.options in
    let stay = c.proofs_stay.ensures in
    let one = c.proofs_stand_for_one.ensures.one in
    let table = c.leaves_differ.ensures.table in
    let known = c.one_to_one-2.ensures in
    let keeps = c.judge_commands.ensures.keeps in
    let next = c.statuses_of.ensures.keeps in
    let last = c.elaborated_by-made.ensures.keeps in
    let behind = terms-trans w z y next last in
    let all = terms-trans v w y keeps behind in
    let read = c.requires.read.read in
    let can = c.read_proofs_can_be_checked.ensures t.problem.now t.options t.proof.now s v asserted refs read c.requires.size in
    let can_there = can_later stay s v w keeps asserted refs can in
    let read_there = read_later stay s v w keeps asserted refs t.problem.now t.options t.proof.now read in
    let read_last = read_later stay s v y all asserted refs t.problem.now t.options t.proof.now read in
    let judged : IsJudgedProof flags s v asserted refs c.in-Ok.judgement =
    rw (c.job-check.ensures.flags, c.flags_of-flags.ensures, c.job-check.ensures.symbols, c.job-check.ensures.problem, c.job-check.ensures.proof)
    at c.in-Ok.ensures.judged in
    let judged_last = judged_later stay s v y all asserted refs one table known can flags c.in-Ok.judgement judged in
    let are : AreStatusesOf (in_strict_mode flags) s w asserted refs strict =
    rw (
      c.job-strict_check.ensures.flags,
      c.strictly.ensures,
      c.flags_of-flags.ensures,
      c.job-strict_check.ensures.symbols,
      c.job-strict_check.ensures.problem,
      c.job-strict_check.ensures.proof,
    ) at c.in-Ok-statuses_of.ensures.statuses in
    let are_last = statuses_later stay s w y behind asserted refs one table known can_there (in_strict_mode flags) strict are in
    let first : PlacesOnly s v w refs = rw (c.job-check.ensures.symbols, c.job-check.ensures.proof) at c.judge_commands.ensures.placed in
    let second : PlacesOnly s w z refs = rw (c.job-strict_check.ensures.symbols, c.job-strict_check.ensures.proof) at c.statuses_of.ensures.placed in
    let third : PlacesCellsOf s z.pass y.pass (IsPlacedFor s y asserted refs strict) = rw c.deref.ensures.value at c.elaborated_by-made.ensures.placed in
    let held = holds_read t.problem.now t.options t.proof.now s v.pass c.requires.holds in
    let holds = holds_checked t.problem.now t.options t.proof.now s v w asserted refs read keeps.pass held first in
    let more = holds_checked t.problem.now t.options t.proof.now s w z asserted refs read_there next.pass holds second in
    let ends = holds_made t.problem.now t.options t.proof.now s table y known both read_last strict are_last z last.pass more third in
    let printed : IsPrintedOf c.in-Ok.judgement (Some c.in-Some.status) = c.in-Some.ensures in
    let by : IfOk c.elaborated_by-made.result (IsMadeBy flags s y asserted refs strict c.in-Some.status) =
    rw (c.deref.ensures.value, c.flags_of-flags.ensures) at c.elaborated_by-made.ensures.made in
    let shares = last.pass.shares ∙ (next.pass.shares ∙ (keeps.pass.shares ∙ c.requires.shares)) in
    let all_places = last.pass.places ∙ (next.pass.places ∙ (keeps.pass.places ∙ places)) in
    IfOk-weaker c.elaborated_by-made.result _ _
    (is_made t.problem.now t.options t.proof.now s table y known both read_last strict are_last c.in-Ok.judgement c.in-Some.status printed judged_last
    bits shares all_places ends) by

pub returns-clause-whole : goal.returns-clause-whole
returns-clause-whole g c =
    let t = c.args.texts.now in
    let both = c.args.both.now in
    let refs = both.proof in
    let asserted = both.problem.assertions in
    let s = c.args.symbols.now in
    let v = c.args.terms.now in
    let w = c.judge_commands.new.terms in
    let z = c.statuses_of.new.terms in
    let y = c.elaborated_by-made.new.terms in
    let strict = c.in-Ok-statuses_of.strict.items in
    let flags = flags_of t.options in
    let stay = c.proofs_stay.ensures in
    let one = c.proofs_stand_for_one.ensures.one in
    let table = c.leaves_differ.ensures.table in
    let known = c.one_to_one-2.ensures in
    let keeps = c.judge_commands.ensures.keeps in
    let behind = terms-trans w z y c.statuses_of.ensures.keeps c.elaborated_by-made.ensures.keeps in
    let all = terms-trans v w y keeps behind in
    let read = c.requires.read.read in
    let can = c.read_proofs_can_be_checked.ensures t.problem.now t.options t.proof.now s v asserted refs read c.requires.size in
    let can_there = can_later stay s v w keeps asserted refs can in
    let read_last = read_later stay s v y all asserted refs t.problem.now t.options t.proof.now read in
    let judged : IsJudgedProof flags s v asserted refs c.in-Ok.judgement =
    rw (c.job-check.ensures.flags, c.flags_of-flags.ensures, c.job-check.ensures.symbols, c.job-check.ensures.problem, c.job-check.ensures.proof)
    at c.in-Ok.ensures.judged in
    let are : AreStatusesOf (in_strict_mode flags) s w asserted refs strict =
    rw (
      c.job-strict_check.ensures.flags,
      c.strictly.ensures,
      c.flags_of-flags.ensures,
      c.job-strict_check.ensures.symbols,
      c.job-strict_check.ensures.problem,
      c.job-strict_check.ensures.proof,
    ) at c.in-Ok-statuses_of.ensures.statuses in
    let printed : IsPrintedOf c.in-Ok.judgement (Some c.in-Some.status) = c.in-Some.ensures in
    let by : IfOk c.elaborated_by-made.result (IsMadeBy flags s y asserted refs strict c.in-Some.status) =
    rw (c.deref.ensures.value, c.flags_of-flags.ensures) at c.elaborated_by-made.ensures.made in
    IfOk-weaker c.elaborated_by-made.result _ _
    (whole_made t.problem.now t.options t.proof.now s table y known both read_last strict
    (statuses_later stay s w y behind asserted refs one table known can_there (in_strict_mode flags) strict are)
    c.in-Ok.judgement c.in-Some.status printed (judged_later stay s v y all asserted refs one table known can flags c.in-Ok.judgement judged)) by
