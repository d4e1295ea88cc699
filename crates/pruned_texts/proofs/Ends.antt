-- How the printing ends, by pools of different sizes, and what was written.
use Rattle.std.proofs.Common.{◌≡◌, ◌≤◌, ◌^◌, ◌⊎◌, inl, inr, ℕ, Bool, List, [], ◌∷◌, Option, All, length, refl, sym, subst, true, false, true≢false, ap, suc}
use Rattle.std.specs.Io.KnownBytes.{Appends}
use Rattle.std.proofs.lemmas.List.Elements.{All-nil, All-cons}
use Rattle.file_ports.specs.Texts.{AppendsPrefix}
use Rattle.sym_table.specs.Table.{Table}
use Rattle.term_model.specs.Terms.{Term}
use Rattle.term_pool.specs.Views.{TermsView, IsTerm, ReferToAll}
use Rattle.term_reader.specs.ProblemViews.{IsProblemOf}
use Rattle.proof_store.specs.Meaning.{StandForItems}
use Rattle.rule_model.specs.Proofs.{ProofItems}
use Rattle.rule_model.specs.Scopes.{commands_in}
use Rattle.pruned_proofs.specs.Pruned.{pruned}
use Rattle.printed_proofs.specs.Shared.{Plan}
use Rattle.alethe_printer.specs.Printed.{proof_text}
use Rattle.named_proofs.specs.Named.{IsFreePlan, IsNamedText, WritesText}
use Rattle.judged_texts.specs.declared.texts.Both.{Both}
use Rattle.named_proofs.specs.Written.{SinkView, WritesPrefix, WritesWhole}
use Rattle.command_words.specs.declared.request.Options.{Options}
use Rattle.judged_texts.specs.declared.judgement.Judgement.{Judgement}
use Rattle.judged_texts.specs.declared.judgement.Judgement.TheVariants.{Valid, Holey, NoEmptyClause, Faulty, TooWide, RefusedProblem, RefusedProof, PoolFull}
use Rattle.judged_texts.specs.Judgement.{IsJudgement}
use Rattle.judged_texts.specs.Texts.{IsNotRead}
use Rattle.pruned_texts.specs.declared.needing.End.{End}
use Rattle.pruned_texts.specs.declared.needing.End.TheVariants as end
use Rattle.pruned_texts.specs.declared.needing.Part.{Part}
use Rattle.pruned_texts.specs.Ending.{EndsSo}
use Rattle.pruned_texts.specs.Needed.{IsJudgementInstead, IsPrunedText}
use Rattle.pruned_texts.specs.Needing.{is_full, IsValidRead}

-- An end for which no larger pool is to be tried does not depend on the pool.
module _ (part : Part) (problem : List ℕ) (options : Options) (proof : List ℕ) (bits most : ℕ) (first last : SinkView) where
  pub any_pool : (e : End) → is_full e ≡ false → EndsSo part problem options proof bits first last e → EndsSo part problem options proof most first last e
  any_pool (end.Instead Valid) e h = h
  any_pool (end.Instead (Holey holes)) e h = h
  any_pool (end.Instead NoEmptyClause) e h = h
  any_pool (end.Instead (Faulty id cause)) e h = h
  any_pool (end.Instead (TooWide id)) e h = h
  any_pool (end.Instead (RefusedProblem r)) e h = h
  any_pool (end.Instead (RefusedProof r)) e h = h
  any_pool (end.Instead PoolFull) e h = absurd (true≢false e)
  any_pool end.Written e h = h
  any_pool end.Failed e h = h
  any_pool end.Memory e h = h

  -- and else nothing was written
  pub nothing_written : (e : End) → is_full e ≡ true → EndsSo part problem options proof bits first last e → last ≡ first
  nothing_written (end.Instead j) e h = h.0
  nothing_written end.Written e h = absurd (true≢false (sym e))
  nothing_written end.Failed e h = absurd (true≢false (sym e))
  nothing_written end.Memory e h = absurd (true≢false (sym e))

module _ (problem : List ℕ) (options : Options) (proof : List ℕ) (bits : ℕ) where
  pub not_read_instead : (j : Judgement) → IsNotRead problem options proof bits j → IsJudgementInstead problem options proof bits j
  not_read_instead (RefusedProblem r) h = h
  not_read_instead (RefusedProof r) h = h
  not_read_instead PoolFull h = h
  not_read_instead Valid h = absurd h
  not_read_instead (Holey holes) h = absurd h
  not_read_instead NoEmptyClause h = absurd h
  not_read_instead (Faulty id cause) h = absurd h
  not_read_instead (TooWide id) h = absurd h

  pub judged_instead : (j : Judgement) → (j ≡ Valid → ⊥) → IsJudgement problem options proof bits j → IsJudgementInstead problem options proof bits j
  judged_instead Valid other h = absurd (other refl)
  judged_instead (Holey holes) other h = h
  judged_instead NoEmptyClause other h = h
  judged_instead (Faulty id cause) other h = h
  judged_instead (TooWide id) other h = h
  judged_instead (RefusedProblem r) other h = h
  judged_instead (RefusedProof r) other h = h
  judged_instead PoolFull other h = h

-- references that stand for terms
module _ (s : Table) (v : TermsView) where
  pub all_terms : (rs : List ℕ) (ts : List Term) → ReferToAll s v rs ts → All (IsTerm s v) rs
  all_terms [] ts zip = All-nil (IsTerm s v)
  all_terms (r ∷ rs) [] zip = absurd zip
  all_terms (r ∷ rs) (t ∷ ts) zip = All-cons (IsTerm s v) r rs (record { means = t; refers = zip.0 }) (all_terms rs ts zip.1)

  pub as_many : (rs : List ℕ) (ts : List Term) → ReferToAll s v rs ts → length rs ≡ length ts
  as_many [] [] zip = refl
  as_many [] (t ∷ ts) zip = absurd zip
  as_many (r ∷ rs) [] zip = absurd zip
  as_many (r ∷ rs) (t ∷ ts) zip = ap suc (as_many rs ts zip.1)

pub or_weaker : {A B C : Type 0} → (B → C) → A ⊎ B → A ⊎ C
or_weaker f (inl a) = inl a
or_weaker f (inr b) = inr (f b)

-- what was written of a pruned proof is the text that is promised, or a prefix of it
module _ (problem : List ℕ) (options : Options) (text : List ℕ) (s : Table) (v : TermsView) (both : Both) (marks : List Bool) (new : ProofItems ℕ ℕ)
    (h : IsValidRead problem options text s v both) (left : new ≡ pruned marks both.proof) (is : IsProblemOf s v both.problem h.checked.script)
    (stand : StandForItems s v (pruned marks both.proof) (pruned marks h.checked.commands)) (few : commands_in new ≤ 2 ^ 32)
    (texts : (plan : Plan) → commands_in (pruned marks both.proof) ≤ 2 ^ 32 → IsFreePlan s h.checked.script plan →
    IsPrunedText problem options text (proof_text plan h.checked.script (pruned marks h.checked.commands))) where
  named : (Writes : List ℕ → Type 0) → WritesText Writes s v both.problem new → IsNamedText Writes s h.checked.script (pruned marks h.checked.commands)
  named Writes writes =
      writes h.checked.script (pruned marks h.checked.commands) is
      (subst (λ refs. StandForItems s v refs (pruned marks h.checked.commands)) (sym left) stand)

  fewer : commands_in (pruned marks both.proof) ≤ 2 ^ 32
  fewer = subst (λ refs. commands_in refs ≤ 2 ^ 32) left few

  pub whole_of : (before after : Option (List ℕ)) → WritesText (Appends before after) s v both.problem new
      → WritesWhole (IsPrunedText problem options text) before after
  whole_of before after writes =
      let n = named (Appends before after) writes in record {
        text = proof_text n.plan h.checked.script (pruned marks h.checked.commands);
        is = texts n.plan fewer n.free;
        printed = n.written;
      }

  pub prefix_of : (before after : Option (List ℕ)) → WritesText (AppendsPrefix before after) s v both.problem new
      → WritesPrefix (IsPrunedText problem options text) before after
  prefix_of before after writes =
      let n = named (AppendsPrefix before after) writes in record {
        text = proof_text n.plan h.checked.script (pruned marks h.checked.commands);
        is = texts n.plan fewer n.free;
        printed = n.written;
      }
