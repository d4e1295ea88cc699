use Rattle.std.proofs.Common.{◌≡◌, ℕ, List, sym, ap, ◌∙◌}
use Rattle.rule_model.specs.declared.statuses.Verdict.{Verdict}
use Rattle.command_words.specs.declared.request.Options.{Options}
use Rattle.problem_text.specs.Scripts.{Script}
use Rattle.pruned_texts.specs.Needed.{core_text, IsCoreOf, IsRefutation}
use Rattle.output_laws.proofs.OneCheck.{IsOneScript, IsOneProof, same_script, same_commands}
use Rattle.output_laws.proofs.OneCore.{same_core}
use Rattle.output_laws.proofs.laws.cores_are_one.Goals as goal

module _ (one_script : IsOneScript) (one_proof : IsOneProof) where
  one_numbers : (problem : List ℕ) (options : Options) (proof : List ℕ) (a b : IsRefutation problem options proof) (xs ys : List ℕ)
      → IsCoreOf problem options proof a xs → IsCoreOf problem options proof b ys → xs ≡ ys
  one_numbers problem options proof a b xs ys h k =
      same_core a.checked.commands b.checked.commands a.checked.script.assertions b.checked.script.assertions a.first b.first a.marks b.marks xs ys
      (same_commands one_script one_proof problem options proof Verdict.Valid Verdict.Valid a.checked b.checked)
      (ap (λ (s : Script). s.assertions) (same_script one_script one_proof problem options proof Verdict.Valid Verdict.Valid a.checked b.checked))
      a.is_first b.is_first a.reached b.reached h k

pub returns-clause-cores : goal.returns-clause-cores
returns-clause-cores c = λ problem options proof one other a b.
    a.printed
    ∙ (ap core_text
    (one_numbers c.texts_have_one_reading.ensures.script c.proof_texts_have_one_reading.ensures.proof problem options proof a.refutation b.refutation
    a.numbers b.numbers a.core b.core) ∙ sym b.printed)

pub returns-clause-pruned : goal.returns-clause-pruned
returns-clause-pruned c = λ problem options proof core pruned out left.
    one_numbers c.texts_have_one_reading.ensures.script c.proof_texts_have_one_reading.ensures.proof problem options proof out.refutation left.refutation
    out.numbers left.numbers out.core left.core
