-- What workers made, from one chunk to the next and of two workers.
use Rattle.std.proofs.Common.{◌≡◌, ◌+◌, ◌++◌, ◌⊎◌, inl, inr, ℕ, zero, suc, List, [], ◌∷◌, All, true, false, Bool, refl, sym, ◌∙◌, ap, ap₂, subst, arith}
use Rattle.std.specs.Prelude.{Result, Ok, Err, Vec, IfOk, is_ok, is_err, if◌then◌else◌}
use Rattle.std.specs.declared.alloc.Global.{Global}
use Rattle.std.proofs.lemmas.List.{map-append}
use Rattle.std.proofs.lemmas.List.Elements.{All-append, All-weaker}
use Rattle.step_claimer.specs.Claims.{ClaimerView, SeatView, IsSeatOf}
use Rattle.sym_table.specs.Table.{Table}
use Rattle.term_model.specs.Terms.{Term}
use Rattle.term_parts.specs.declared.answers.RuleStop.TheVariants as RuleStop
use Rattle.term_pool.specs.Placing.{LacksCellOf}
use Rattle.term_pool.specs.Halves.{AreHalves, IsJoined}
use Rattle.term_pool.specs.Views.{TermsView}
use Rattle.worker_crew.specs.Pieces.{Extends}
use Rattle.worker_crew.specs.Working.{Returned, AreDone, LacksRoomAt, IsDone, AreOfBoth}
use Rattle.worker_crew.proofs.Parts.{WantedStays, here_extends, there_extends, work_of_both, lacks_of_both}

pub no_err_is_ok : {T E : Type 0} (r : Result T E) → is_err r ≡ false → is_ok r ≡ true
no_err_is_ok (Ok x) h = refl
no_err_is_ok (Err e) h = absurd cc

-- what is said of pieces where so much is known is so where more is known
abbrev pub SaysStays : {P : Type 0} → (TermsView → ℕ → P → Type 0) → Type 0
SaysStays {P} says = (old new : TermsView) (k : ℕ) (piece : P) → Extends old new → says old k piece → says new k piece

pub done_more : {P : Type 0} (S T : ℕ → P → Type 0) (numbers : List ℕ) (pieces : List (ℕ × P)) → ((k : ℕ) (p : P) → S k p → T k p) → AreDone S numbers pieces → AreDone T numbers pieces
done_more {P} S T numbers pieces more h = record {
  are = h.are;
  say = All-weaker (λ (p : ℕ × P). S p.0 p.1) (λ (p : ℕ × P). T p.0 p.1) (λ p e. more p.0 p.1 e) pieces h.say;
}

pub done_append : {P : Type 0} (S : ℕ → P → Type 0) (ns ms : List ℕ) (xs ys : List (ℕ × P)) → AreDone S ns xs → AreDone S ms ys → AreDone S (ns ++ ms) (xs ++ ys)
done_append {P} S ns ms xs ys h k = record {
  are = map-append (λ (p : ℕ × P). p.0) xs ys ∙ ap₂ ◌++◌ h.are k.are;
  say = All-append (λ (p : ℕ × P). S p.0 p.1) xs ys h.say k.say;
}

pub done_none : {P : Type 0} (S : ℕ → P → Type 0) (numbers : List ℕ) (pieces : List (ℕ × P)) → numbers ≡ [] → pieces ≡ [] → AreDone S numbers pieces
done_none S numbers pieces e f =
    rw (e, f) (record { are = refl; say = λ k d below. absurd (omega (arith, below)) })

-- one chunk more
pub done_one : {P : Type 0} (S T : ℕ → P → Type 0) (ns ms : List ℕ) (xs ys : List (ℕ × P)) (k : ℕ) (p : P) → ((n : ℕ) (q : P) → S n q → T n q) → AreDone S ns xs → T k p → ms ≡ ns ++ k ∷ [] → ys ≡ xs ++ (k, p) ∷ [] → AreDone T ms ys
done_one {P} S T ns ms xs ys k p more h here e f =
    rw (e, f) (done_append T ns (k ∷ []) xs ((k, p) ∷ []) (done_more S T ns xs more h)
    (record { are = refl; say = one }))
  where
    one : All (λ (q : ℕ × P). T q.0 q.1) ((k, p) ∷ [])
    one zero d below = here
    one (suc i) d below = absurd (omega (arith, below))

-- ---- of two workers

module _ {P : Type 0} (s : Table) (wanted : TermsView → Term → Type 0) (stays : WantedStays wanted) (says : TermsView → ℕ → P → Type 0) (says_stay : SaysStays says)
    (claimer : ClaimerView) (whole one other here there new : TermsView) (shares : ℕ) (mine theirs seat : SeatView) (first second : Returned P)
    (split : AreHalves whole one other) (joined : IsJoined here there new) (h : IsDone s wanted says claimer one shares here mine first)
    (k : IsDone s wanted says claimer other 1 there theirs second) where
  both_pieces : (all : List (ℕ × P)) → seat.numbers ≡ mine.numbers ++ theirs.numbers → seat.ended ≡ (if mine.ended then true else theirs.ended) → AreOfBoth first second all
      → AreDone (says new) seat.numbers all × (seat.ended ≡ true)
  both_pieces all numbers ended both =
      let a = subst (λ (r : Returned P). IfOk r (λ (pieces : Vec (ℕ × P) Global). AreDone (says here) mine.numbers pieces.items × (mine.ended ≡ true))) both.first h.pieces in
      let b = subst (λ (r : Returned P). IfOk r (λ (pieces : Vec (ℕ × P) Global). AreDone (says there) theirs.numbers pieces.items × (theirs.ended ≡ true))) both.second k.pieces in
      let p = done_more (says here) (says new) mine.numbers both.one.items
      (λ n q e. says_stay here new n q (here_extends s wanted stays whole one other here there new split joined h.work k.work) e) a.0 in
      let q = done_more (says there) (says new) theirs.numbers both.other.items
      (λ n q e. says_stay there new n q (there_extends s wanted stays whole one other here there new split joined h.work k.work) e) b.0 in (
        subst (λ (xs : List (ℕ × P)). AreDone (says new) seat.numbers xs) (sym both.are)
            (subst (λ ns. AreDone (says new) ns (both.one.items ++ both.other.items)) (sym numbers)
            (done_append (says new) mine.numbers theirs.numbers both.one.items both.other.items p q)),
        ended ∙ ap (λ (t : Bool). if t then true else theirs.ended) a.1,
      )

  both_full : (first ≡ Err RuleStop.PoolFull) ⊎ (second ≡ Err RuleStop.PoolFull) → LacksCellOf s new.pass (wanted new)
  both_full (inl e) =
      lacks_of_both s wanted stays whole one other here there new split joined h.work k.work
      (inl (subst (λ (r : Returned P). LacksRoomAt s wanted here r) e h.full refl))
  both_full (inr e) =
      lacks_of_both s wanted stays whole one other here there new split joined h.work k.work
      (inr (subst (λ (r : Returned P). LacksRoomAt s wanted there r) e k.full refl))

  pub both_done : IsSeatOf claimer seat → seat.shares ≡ mine.shares + theirs.shares → seat.numbers ≡ mine.numbers ++ theirs.numbers → seat.ended ≡ (if mine.ended then true else theirs.ended)
      → (result : Returned P) → IfOk result (λ (all : Vec (ℕ × P) Global). AreOfBoth first second all.items) → (result ≡ Err RuleStop.PoolFull → (first ≡ Err RuleStop.PoolFull) ⊎ (second ≡ Err RuleStop.PoolFull))
      → IsDone s wanted says claimer whole (shares + 1) new seat result
  both_done of_claimer sum numbers ended result pieces refused = record {
    work = work_of_both s wanted stays whole one other here there new split joined h.work k.work;
    of_claimer = of_claimer;
    shares = let a = h.shares in let b = k.shares in omega (arith, a, b, sum);
    pieces = go result pieces;
    full = full_at result refused;
  }
    where
      go : (r : Returned P) → IfOk r (λ (all : Vec (ℕ × P) Global). AreOfBoth first second all.items) → IfOk r (λ (all : Vec (ℕ × P) Global). AreDone (says new) seat.numbers all.items × (seat.ended ≡ true))
      go (Ok all) e = both_pieces all.items numbers ended e
      go (Err stop) e = tt

      full_at : (r : Returned P) → (r ≡ Err RuleStop.PoolFull → (first ≡ Err RuleStop.PoolFull) ⊎ (second ≡ Err RuleStop.PoolFull)) → LacksRoomAt s wanted new r
      full_at (Ok all) e = tt
      full_at (Err stop) e = λ is. both_full (e (ap Err is))
