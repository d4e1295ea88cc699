-- Private. What is promised of a reply's text, by what is promised of the text of its proof.
use Rattle.std.proofs.Common.{◌≡◌, ℕ, ◌+◌, ◌-◌, ◌<◌, ◌≤◌, ◌^◌, Bool, false, List, length, sym, subst, arith}
use Rattle.std.specs.Prelude.{Contains}
use Rattle.std.specs.List.{AllByRecursion}
use Rattle.sym_table.specs.Table.{Table}
use Rattle.term_model.specs.Terms.{Term}
use Rattle.term_model.proofs.Lists.{contains_none}
use Rattle.term_pool.specs.Views.{TermsView, IsTerm, ReferToAll}
use Rattle.rule_model.specs.Proofs.{ProofItems}
use Rattle.proof_store.specs.Checks.{StandForSome}
use Rattle.proof_store.specs.Meaning.{StandForItems, AreOfTerms, IsMeant}
use Rattle.problem_text.specs.Problems.{StandsForProblem}
use Rattle.problem_text.specs.Scripts.{Script}
use Rattle.alethe_printer.specs.Printed.{HaveSorts}
use Rattle.accepted_replies.specs.Refutations.{CanBeRead, Refutes, in_check_mode}
use Rattle.accepted_replies.specs.Replies.{Inference, reply_of, IsAnswer, AreAssertionsReadable}
use Rattle.accepted_replies.specs.Texts.{StandsForInference, IsTextOf, IsAcceptedText, IsTextOfReply, IsAcceptedReply, IsLongReply}
use Rattle.accepted_replies.proofs.ReplyLengths.{reply_longer}
use Rattle.accepted_replies.proofs.ReplyReferences.{binds_nothing, as_many, reply_stands, reply_of_terms}

module _ (s : Table) (v : TermsView) (refs : List ℕ) (i : Inference ℕ) where
  module _ (proof : ProofItems ℕ ℕ) (is : proof ≡ reply_of refs i) where
    pub stands_for_some : ((z : Table) (w : TermsView) (p : ProofItems ℕ ℕ) → AreOfTerms z w p → IsMeant z w p)
        → AllByRecursion (IsTerm s v) refs → AllByRecursion (IsTerm s v) i.clause → StandForSome s v proof
    stands_for_some law assumed clause =
        let meant = law s v (reply_of refs i) (reply_of_terms s v refs i assumed clause) in
        subst (StandForSome s v) (sym is) (record { proof = meant.means; stand = meant.stand })

    pub has_sorts : HaveSorts s proof
    has_sorts =
        subst (HaveSorts s) (sym is) (λ k b x has leaf. absurd (contains_none b (subst (λ bs. Contains bs b) (binds_nothing ℕ refs i k) has)))

    stands : (assumed : List Term) (x : Inference Term) → ReferToAll s v refs assumed → StandsForInference s v i x
        → StandForItems s v proof (reply_of assumed x)
    stands assumed x all inferred = subst (λ p. StandForItems s v p (reply_of assumed x)) (sym is) (reply_stands s v refs assumed i x all inferred)

    pub is_text : (bytes : List ℕ) → IsTextOf s v proof bytes → IsTextOfReply s v refs i bytes
    is_text bytes text script assumed x sorts all inferred = text script (reply_of assumed x) sorts (stands assumed x all inferred)

    pub is_accepted : length refs + 2 < 2 ^ 32 - 1
        → ((problem : List ℕ) (z : Script) (assumed : List Term) (x : Inference Term) → StandsForProblem problem false z → AreAssertionsReadable z →
        IsAnswer z assumed x → length assumed + 2 ≤ 2 ^ 32 → CanBeRead z (reply_of assumed x))
        → ((unknown : Bool) (z : Script) (assumed : List Term) (x : Inference Term) → IsAnswer z assumed x →
        Refutes (in_check_mode unknown z) (reply_of assumed x))
        → (bytes : List ℕ) → IsAcceptedText s v proof bytes → IsAcceptedReply s v refs i bytes
    is_accepted few read refuted bytes accepted script assumed x sorts all inferred question unknown problem readable answer =
        let many = as_many s v refs assumed all in
        accepted script (reply_of assumed x) sorts (stands assumed x all inferred) question unknown problem
        (read question script assumed x problem readable answer (omega (arith, few, many))) (refuted unknown script assumed x answer)

  pub is_long : (most : ℕ) → most < length refs → IsLongReply s v refs i most
  is_long most more script assumed x sorts all inferred =
      let many = as_many s v refs assumed all in let longer = reply_longer script assumed x in omega (arith, more, many, longer)
