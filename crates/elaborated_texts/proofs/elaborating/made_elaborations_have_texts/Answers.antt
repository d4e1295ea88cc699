use Rattle.std.proofs.Common.{◌≤◌, ◌^◌, inl, inr, ℕ, List, [], ◌∷◌, Contains, refl, subst}
use Rattle.std.specs.List.{AllZip}
use Rattle.sym_table.specs.Table.{Table}
use Rattle.term_model.proofs.Lists.{contains_none, contains_cases}
use Rattle.term_model.specs.Terms.{Term}
use Rattle.term_pool.specs.Views.{TermsView, RefersTo}
use Rattle.rule_model.specs.Elaboration.{IsElaboration}
use Rattle.rule_model.specs.Reading.{clause_at}
use Rattle.rule_model.specs.Scopes.{commands_in}
use Rattle.readable_proofs.specs.Names.{vocabulary_of}
use Rattle.readable_proofs.specs.ProofsOver.{IsProofOver}
use Rattle.judged_texts.specs.Reading.{checking_of, settings_of}
use Rattle.elaborated_texts.proofs.ElaboratedTexts.{checked}
use Rattle.elaborated_texts.proofs.elaborating.made_elaborations_have_texts.Goals as goal

-- a term of a list is one for which a reference stands
referred : (s : Table) (v : TermsView) (rs : List ℕ) (ts : List Term) (t : Term) → AllZip (RefersTo s v) rs ts → Contains ts t → (r : ℕ) × RefersTo s v r t
referred s v [] [] t zip has = absurd (contains_none t has)
referred s v [] (u ∷ ts) t zip has = absurd zip
referred s v (r ∷ rs) [] t zip has = absurd zip
referred s v (r ∷ rs) (u ∷ ts) t zip has =
    elim (contains_cases u t ts has) [
      | inl e ↦ (r, subst (λ x. RefersTo s v r x) e zip.0)
      | inr later ↦ referred s v rs ts t zip.1 later
    ]

pub returns : goal.returns
returns c = λ problem options text s v both status new read made plan few free.
    let before = read.read.script in
    let source = read.read.problem_text in
    let proof = read.read.read.proof in
    let after = read.read.read.after in
    let stands = read.read.read.stands in
    let refer = read.read.read.refer in
    let replaces = options.replaces_lets in
    let settings = settings_of options in
    let other = made.is.meant.proof in
    let refer_other = made.is.meant.stand in
    let same = c.proofs_correspond.ensures s v both.proof proof refer in
    let h = made.is.each proof before.assertions other refer read.read.assertions refer_other in
    let is : IsElaboration (checking_of options before.assertions) proof other = h.0 in
    let over : IsProofOver (vocabulary_of before after.let_names) other =
    made.over (vocabulary_of before after.let_names) proof other refer refer_other
    (c.proofs_are_over_their_names.ensures.proof problem replaces before text settings proof after source stands) in
    let ratios = c.proofs_that_pass_have_coefficients.ensures _ other is.statuses is.are is.pass in
    let many : commands_in other ≤ 2 ^ 32 = rw (c.commands_correspond.ensures.commands s v new other refer_other) at few in record {
      verdict = made.verdict;
      is_status = made.is_status;
      checked = checked problem options text s v both status new read made same;
      elaboration = other;
      is = is;
      plan = plan;
      names = record {
        is_plan = free.is_plan;
        free = free.free;
        apart = λ i t has.
            let r = referred s v (clause_at new i) (clause_at other i) t (c.terms_correspond.ensures.clause s v new other i refer_other) has in
            c.terms_are_apart.ensures s v plan r.0 t free.no_leaf r.1;
      };
      printed = refl;
      read_back = λ apart. c.named_proofs_are_read_back.ensures problem replaces before text settings proof after s v new other plan source stands
          refer_other over ratios h.1 many free apart;
    }
