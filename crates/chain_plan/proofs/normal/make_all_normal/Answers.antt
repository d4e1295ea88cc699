use Rattle.std.proofs.Common.{◌≡◌, ◌<◌, ◌≤◌, ◌+◌, ◌⊎◌, inl, inr, ◌∷◌, ◌++◌, [], ℕ}
use Rattle.std.proofs.Common.{List, length, get_or, refl, sym, ◌∙◌, ap, subst, arith}
use Rattle.std.proofs.lemmas.List.{length-append, length-map, get_or_append_left, get_or_push, get_or-map, take_all}
use Rattle.std.proofs.lemmas.List.Elements.{All-push, All-weaker}
use Rattle.std.proofs.lemmas.List.Sums.{sum_by_more}
use Rattle.clause_chain.specs.Chaining.{clauses_of}
use Rattle.clause_chain.specs.declared.signed_term.SignedTerm.{SignedTerm}
use Rattle.chain_plan.specs.Carried.{KeepsSources}
use Rattle.chain_plan.specs.Normals.{NormalClause, IsPlainForm, IsStanding}
use Rattle.chain_plan.specs.Plans.{PlannedStep}
use Rattle.chain_plan.specs.Towers.{Towers, nots_of, nots_in}
use Rattle.chain_plan.proofs.normal.make_all_normal.Goals as goal

standing_stays : (given : List (List SignedTerm)) (old new : List PlannedStep) → KeepsSources old new → (n : NormalClause) → IsStanding given old n
    → IsStanding given new n
standing_stays given old new kept n s =
    record { source = kept.are given n.source s.source; same = kept.same given n.source s.source ∙ s.same }

below_or_last : (i n : ℕ) → i < n + 1 → (i < n) ⊎ (i ≡ n)
below_or_last i n h = grind arith

one_more_form : (t : Towers) (given : List (List SignedTerm)) (ns : List NormalClause) (n : NormalClause)
    → ((i : ℕ) (d : NormalClause) → i < length ns → IsPlainForm t (get_or given i []) (get_or ns i d))
    → IsPlainForm t (get_or given (length ns) []) n
    → (i : ℕ) (d : NormalClause) → i < length (ns ++ n ∷ []) → IsPlainForm t (get_or given i []) (get_or (ns ++ n ∷ []) i d)
one_more_form t given ns n each last i d within =
    elim (below_or_last i (length ns) (let e = length-append ns (n ∷ []) in omega arith)) [
      | inl less ↦ subst (IsPlainForm t (get_or given i [])) (sym (get_or_append_left ns (n ∷ []) d i less)) (each i d less)
      | inr same ↦ rw (same, get_or_push ns n d (length ns) refl) last
    ]

pub clauses-preserved : goal.clauses-preserved
clauses-preserved c =
    let t = c.args.spellings.now in
    let given = clauses_of c.args.given.now in
    let i = c.clauses.place in
    let below = c.clauses-test.true in
    let clause = c.index-given-place.result in
    let long : i < length given = subst (λ n. i < n) (sym (length-map c.args.given.now (λ v. v.items))) below in
    let at : get_or given i [] ≡ clause.items =
    get_or-map (λ v. v.items) c.args.given.now i clause [] below ∙ sym (ap (λ v. v.items) c.index-given-place.is) in
    let seen : c.deref.result.now ≡ clause.items = c.deref.ensures.value in
    let l = c.in_ok-normal.ensures in
    let inv = c.clauses.invariant in
    let pushed = c.in_ok-push.ensures.items in
    record {
      sound = λ s. l.sound given (inv.sound s) long (at ∙ sym seen);
      so_many = ap length pushed ∙ (length-append c.clauses.normals.items (c.in_ok-normal.normal ∷ []) ∙ ap (λ n. n + 1) inv.so_many);
      each = rw pushed (one_more_form t given c.clauses.normals.items c.in_ok-normal.normal inv.each
          (rw (inv.so_many, at, ← seen) l.form));
      stand = rw pushed (All-push (IsStanding given c.make_normal.new.steps.items) c.clauses.normals.items c.in_ok-normal.normal
          (All-weaker (IsStanding given c.clauses.steps.items) (IsStanding given c.make_normal.new.steps.items)
          (standing_stays given c.clauses.steps.items c.make_normal.new.steps.items l.kept) c.clauses.normals.items inv.stand)
          (l.stands given long (at ∙ sym seen)));
      count =
          let more = sum_by_more (nots_of t) given i [] long in
          let before = inv.count in
          let here : length c.make_normal.new.steps.items ≤ length c.clauses.steps.items + nots_of t (get_or given i []) = rw (at, ← seen) l.count in
          omega arith;
    }

pub returns : goal.returns
returns c =
    let t = c.args.spellings.now in
    let given = clauses_of c.args.given.now in
    let inv = c.clauses.invariant in
    let same = length-map c.args.given.now (λ v. v.items) in
    let end = c.clauses.auto.place-end in
    let past = c.clauses-test.false in
    record {
      sound = inv.sound;
      forms = record { count = inv.so_many ∙ omega arith; each = inv.each };
      stand = inv.stand;
      count =
          subst (λ cs. length c.clauses.steps.items ≤ length c.args.steps.now.items + nots_in t cs) (take_all c.clauses.place given (omega arith)) inv.count;
    }
