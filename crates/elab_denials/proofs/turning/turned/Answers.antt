use Rattle.std.proofs.Common.{[], ◌∷◌, ◌+◌, ◌≤◌, arith}
use Rattle.std.proofs.lemmas.List.Elements.{All-cons, All-nil}
use Rattle.term_model.specs.Flips.{equality}
use Rattle.term_model.specs.Terms.{not_of}
use Rattle.equality_steps.proofs.SiteLemmas.{equality_fits, sides_turned}
use Rattle.equality_steps.specs.Sites.{IsLiteralAt}
use Rattle.flip_steps.proofs.OrderLemmas.{keeps_then}
use Rattle.equality_blocks.specs.Made.{apart, stated}
use Rattle.equality_blocks.proofs.StayLemmas.{made_later}
use Rattle.elab_denials.proofs.OwingLemmas.{equality_made}
use Rattle.elab_denials.proofs.Results.{handed_on}
use Rattle.elab_denials.proofs.WorkLemmas.{done_then, equality_later, exchanged_at, later, one_side, other_side, went_then, work_later}
use Rattle.elab_denials.proofs.turning.turned.Goals as goal

pub equality-requires : goal.equality-requires
equality-requires c = record { made = other_side c.args.at.now c.args.terms.now c.args.a c.args.b c.requires.place }

pub equality-requires-2 : goal.equality-requires-2
equality-requires-2 c =
    record {
      made = equality_later c.args.at.now c.args.terms.now c.equality.new.terms c.in_ok-whole.ensures.went.keeps c.args.a c.args.b
          (one_side c.args.at.now c.args.terms.now c.args.a c.args.b c.requires.place);
    }

pub returns-in_err-other-clause-went : goal.returns-in_err-other-clause-went
returns-in_err-other-clause-went c =
    went_then c.args.at.now c.args.terms.now c.equality.new.terms c.equality-2.new.terms c.in_ok-whole.ensures.went c.in_err-other.ensures.went

pub returns-in_err-other-clause-full : goal.returns-in_err-other-clause-full
returns-in_err-other-clause-full c = handed_on c.from_residual-in_err-other.result _ _ c.from_residual-in_err-other.ensures.1 c.in_err-other.ensures.full

pub symmetric-requires-clause-work : goal.symmetric-requires-clause-work
symmetric-requires-clause-work c =
    let p = c.args.at.now in
    let keeps = keeps_then c.args.terms.now c.equality.new.terms c.equality-2.new.terms c.in_ok-whole.ensures.went.keeps c.in_ok-other.ensures.went.keeps in
    work_later c.forms_stay.ensures p c.args.terms.now c.equality-2.new.terms c.args.work.now keeps
    (c.blocks_stay.ensures.block p c.args.terms.now c.equality-2.new.terms c.args.work.now.block keeps c.requires.work.block) c.requires.work

pub symmetric-requires-clause-turned : goal.symmetric-requires-clause-turned
symmetric-requires-clause-turned c =
    let p = c.args.at.now in
    let h = c.requires.place in
    let first = c.in_ok-whole.ensures.went.keeps in
    record {
      left = h.right;
      right = h.left;
      whole_refers = later p c.equality.new.terms c.equality-2.new.terms c.in_ok-other.ensures.went.keeps c.in_ok-whole.whole (equality h.right h.left)
          (c.in_ok-whole.ensures.refers h.right h.left h.right_refers h.left_refers);
      turned_refers = c.in_ok-other.ensures.refers h.left h.right (later p c.args.terms.now c.equality.new.terms first c.args.a h.left h.left_refers)
          (later p c.args.terms.now c.equality.new.terms first c.args.b h.right h.right_refers);
      sides = sides_turned p h.left h.right h.sides;
    }

pub symmetric-requires-clause-made : goal.symmetric-requires-clause-made
symmetric-requires-clause-made c =
    let p = c.args.at.now in
    let h = c.requires.place in
    let first = c.in_ok-whole.ensures.went.keeps in
    exchanged_at p c.args.terms.now c.equality-2.new.terms c.args.a c.args.b c.in_ok-whole.whole c.in_ok-other.other h
    (keeps_then c.args.terms.now c.equality.new.terms c.equality-2.new.terms first c.in_ok-other.ensures.went.keeps)
    (later p c.equality.new.terms c.equality-2.new.terms c.in_ok-other.ensures.went.keeps c.in_ok-whole.whole (equality h.right h.left)
    (c.in_ok-whole.ensures.refers h.right h.left h.right_refers h.left_refers))
    (c.in_ok-other.ensures.refers h.left h.right (later p c.args.terms.now c.equality.new.terms first c.args.a h.left h.left_refers)
    (later p c.args.terms.now c.equality.new.terms first c.args.b h.right h.right_refers))

pub returns-in_err-link-clause-went : goal.returns-in_err-link-clause-went
returns-in_err-link-clause-went c =
    let p = c.args.at.now in
    went_then p c.args.terms.now c.equality-2.new.terms c.symmetric.new.terms
    (went_then p c.args.terms.now c.equality.new.terms c.equality-2.new.terms c.in_ok-whole.ensures.went c.in_ok-other.ensures.went) c.in_err-link.ensures.went

pub returns-in_err-link-clause-full : goal.returns-in_err-link-clause-full
returns-in_err-link-clause-full c = handed_on c.from_residual-in_err-link.result _ _ c.from_residual-in_err-link.ensures.1 c.in_err-link.ensures.full

pub implied-requires-clause-work : goal.implied-requires-clause-work
implied-requires-clause-work c = c.in_ok-link.ensures.done.work

pub implied-requires-clause-literal : goal.implied-requires-clause-literal
implied-requires-clause-literal c =
    let p = c.args.at.now in
    let h = c.requires.place in
    let x = equality h.right h.left in
    let keeps = keeps_then c.equality.new.terms c.equality-2.new.terms c.symmetric.new.terms c.in_ok-other.ensures.went.keeps c.in_ok-link.ensures.went.keeps in
    record {
      clause = x ∷ [];
      refer = (
        later p c.equality.new.terms c.symmetric.new.terms keeps c.in_ok-whole.whole x (c.in_ok-whole.ensures.refers h.right h.left h.right_refers h.left_refers),
        tt,
      );
      fit = All-cons (IsLiteralAt p) x [] (equality_fits p h.right h.left (sides_turned p h.left h.right h.sides)) (All-nil (IsLiteralAt p));
    }

pub implied-requires-clause-made : goal.implied-requires-clause-made
implied-requires-clause-made c =
    let p = c.args.at.now in
    let h = c.requires.place in
    let first = c.in_ok-whole.ensures.went.keeps in
    let second = c.in_ok-other.ensures.went.keeps in
    let third = c.in_ok-link.ensures.went.keeps in
    let both = keeps_then c.equality.new.terms c.equality-2.new.terms c.symmetric.new.terms second third in
    let all = keeps_then c.args.terms.now c.equality.new.terms c.symmetric.new.terms first both in
    let v = c.args.terms.now in
    let w = c.symmetric.new.terms in
    record {
      one = equality h.right h.left;
      other = equality h.left h.right;
      one_refers = later p c.equality.new.terms c.symmetric.new.terms both c.in_ok-whole.whole (equality h.right h.left)
          (c.in_ok-whole.ensures.refers h.right h.left h.right_refers h.left_refers);
      other_refers = later p c.equality-2.new.terms c.symmetric.new.terms third c.in_ok-other.other (equality h.left h.right)
          (c.in_ok-other.ensures.refers h.left h.right (later p c.args.terms.now c.equality.new.terms first c.args.a h.left h.left_refers)
          (later p c.args.terms.now c.equality.new.terms first c.args.b h.right h.right_refers));
      denied_made = made_later p v w all (not_of (equality h.right h.left)) (apart h.right h.left h.back);
      other_made = made_later p v w all (equality h.left h.right) (stated (equality h.left h.right) (equality_made p v c.args.a c.args.b h));
    }

pub returns-in_err-new-clause-went : goal.returns-in_err-new-clause-went
returns-in_err-new-clause-went c =
    let p = c.args.at.now in
    went_then p c.args.terms.now c.symmetric.new.terms c.implied.new.terms
    (went_then p c.args.terms.now c.equality-2.new.terms c.symmetric.new.terms
    (went_then p c.args.terms.now c.equality.new.terms c.equality-2.new.terms c.in_ok-whole.ensures.went c.in_ok-other.ensures.went) c.in_ok-link.ensures.went)
    c.in_err-new.ensures.went

pub returns-in_err-new-clause-full : goal.returns-in_err-new-clause-full
returns-in_err-new-clause-full c = handed_on c.from_residual-in_err-new.result _ _ c.from_residual-in_err-new.ensures.1 c.in_err-new.ensures.full

pub returns-clause-says : goal.returns-clause-says
returns-clause-says c t u l r =
    let p = c.args.at.now in
    let first = c.in_ok-whole.ensures.went.keeps in
    let second = c.in_ok-other.ensures.went.keeps in
    let third = c.in_ok-link.ensures.went.keeps in
    let both = keeps_then c.equality.new.terms c.equality-2.new.terms c.symmetric.new.terms second third in
    c.in_ok-new.ensures.says (equality u t) (equality t u)
    (later p c.equality.new.terms c.symmetric.new.terms both c.in_ok-whole.whole (equality u t) (c.in_ok-whole.ensures.refers u t r l))
    (later p c.equality-2.new.terms c.symmetric.new.terms third c.in_ok-other.other (equality t u)
    (c.in_ok-other.ensures.refers t u (later p c.args.terms.now c.equality.new.terms first c.args.a t l)
    (later p c.args.terms.now c.equality.new.terms first c.args.b u r)))

pub returns-clause-done : goal.returns-clause-done
returns-clause-done c =
    let low : 1 + 1 ≤ 2 = omega arith in
    done_then c.args.at.now c.implied.new.terms c.symmetric.new.terms c.args.work.now c.symmetric.new.work c.implied.new.work 1 1 2 low
    c.in_ok-link.ensures.done c.in_ok-new.ensures.done

pub returns-clause-went : goal.returns-clause-went
returns-clause-went c =
    let p = c.args.at.now in
    went_then p c.args.terms.now c.symmetric.new.terms c.implied.new.terms
    (went_then p c.args.terms.now c.equality-2.new.terms c.symmetric.new.terms
    (went_then p c.args.terms.now c.equality.new.terms c.equality-2.new.terms c.in_ok-whole.ensures.went c.in_ok-other.ensures.went) c.in_ok-link.ensures.went)
    c.in_ok-new.ensures.went
