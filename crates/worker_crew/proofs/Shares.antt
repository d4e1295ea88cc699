-- Terms whose pass lends its shares one by one, and takes them back.
use Rattle.std.proofs.Common.{◌≡◌, ◌-◌, ℕ, refl, subst, arith}
use Rattle.pair_pool.specs.Views.{Grows, Knows}
use Rattle.term_pool.specs.Halves.{AreHalves}
use Rattle.term_pool.specs.Views.{TermsView}
use Rattle.step_claimer.specs.Claims.{ClaimerView, SeatView, IsSeatOf}
use Rattle.sym_table.specs.Table.{Table}
use Rattle.term_model.specs.Terms.{Term}
use Rattle.worker_crew.specs.Pieces.{Extends}
use Rattle.worker_crew.specs.Working.{IsDone, IsPartOf, Returned, with_shares}

-- one that is split has the same lists
pub split_once : (start old new part : TermsView) (n : ℕ) → old ≡ with_shares start n → AreHalves old new part → new ≡ with_shares start (n - 1)
split_once start old new part n is h = go (subst (λ v. AreHalves v new part) is h)
  where
    go : AreHalves (with_shares start n) new part → new ≡ with_shares start (n - 1)
    go k = λ i. record {
      pool = k.pool i;
      pass = record { places = k.places i; shares = k.shares i; seen = k.seen i; known = k.known i; placed = k.placed i };
    }

pub part_of : (start old new part : TermsView) (n : ℕ) → old ≡ with_shares start n → AreHalves old new part → IsPartOf start part
part_of start old new part n is h = go (subst (λ v. AreHalves v new part) is h)
  where
    go : AreHalves (with_shares start n) new part → IsPartOf start part
    go k m some = record {
      some = omega (arith, some);
      pool = refl;
      places = refl;
      shares = omega arith;
      seen = refl;
      known = refl;
      placed = refl;
      right_pool = k.right_pool;
      right_places = k.right_places;
      right_shares = k.right_shares;
      right_seen = k.right_seen;
      right_known = k.right_known;
      right_placed = k.right_placed;
    }

-- the same terms, if their shares are told right
pub own_shares : (v : TermsView) (n : ℕ) → v.pass.shares ≡ n → v ≡ with_shares v n
own_shares v n e = λ i. record {
  pool = v.pool;
  pass = record { places = v.pass.places; shares = e i; seen = v.pass.seen; known = v.pass.known; placed = v.pass.placed };
}

pub part_grows : (start part : TermsView) → IsPartOf start part → Grows start.pass part.pass
unfolding Knows
part_grows start part h r t known = let k = h 1 (omega arith) in rw k.right_known known

pub shares_extend : (v : TermsView) (n : ℕ) → Extends v (with_shares v n)
unfolding Knows
shares_extend v n = record { pool = refl; grows = λ r t h. h }

pub seat_count : (claimer : ClaimerView) (seat : SeatView) → IsSeatOf claimer seat → seat.count ≡ claimer.count
unfolding IsSeatOf
seat_count claimer seat h = h.1

pub part_pool : (start part : TermsView) → IsPartOf start part → part.pool ≡ start.pool
part_pool start part h = (h 1 (omega arith)).right_pool

-- the same of other numbers that are the same
pub renumbered : {P : Type 0} (s : Table) (wanted : TermsView → Term → Type 0) (says : TermsView → ℕ → P → Type 0) (claimer : ClaimerView) (start : TermsView) (k l m n : ℕ) (new : TermsView) (seat : SeatView) (made : Returned P)
    → k ≡ l → m ≡ n → IsDone s wanted says claimer (with_shares start k) m new seat made → IsDone s wanted says claimer (with_shares start l) n new seat made
renumbered s wanted says claimer start k l m n new seat made e f h =
    subst (λ z. IsDone s wanted says claimer (with_shares start l) z new seat made) f
    (subst (λ z. IsDone s wanted says claimer (with_shares start z) m new seat made) e h)
