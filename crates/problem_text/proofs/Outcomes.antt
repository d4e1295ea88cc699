-- Cited by crates above. What holds of each part of a reading holds of the whole.
use Rattle.std.proofs.Common.{List, [], ◌∷◌, Bool, true, false, Option, Some, None, Result, Ok, Err, IfOk, IfSome, cond, find, option_map, option_and_then}
use Rattle.std.specs.List.{AllByRecursion}
use Rattle.std.specs.Option.{option_or}
use Rattle.sexpr.specs.declared.causes.Refusal.{Refusal}
use Rattle.problem_text.specs.Outcomes.{Outcome, going_on, and_then}

-- P of the state after a reading, and Q of what was read
abbrev pub Ends : {S A : Type 0} → (S → Type 0) → (A → Type 0) → Outcome S A → Type 0
Ends P Q o = P o.state × IfOk o.result Q

pub ends-goes_on : {S A B : Type 0} (P : S → Type 0) (Q : A → Type 0) (R : B → Type 0) (r : Result A Refusal) (s : S) (next : A → S → Outcome S B) → P s → IfOk r Q → ((a : A) → Q a → Ends P R (next a s)) → Ends P R (going_on r s next)
ends-goes_on P Q R (Ok a) s next p q k = k a q
ends-goes_on P Q R (Err refusal) s next p q k = (p, tt)

pub ends-and_then : {S A B : Type 0} (P : S → Type 0) (Q : A → Type 0) (R : B → Type 0) (o : Outcome S A) (next : A → S → Outcome S B) → Ends P Q o → ((a : A) (s : S) → Q a → P s → Ends P R (next a s)) → Ends P R (and_then o next)
ends-and_then P Q R o next h k = ends-goes_on P Q R o.result o.state next h.0 h.1 (λ a q. k a o.state q h.0)

-- what is found has what all have
pub if_found : {X : Type 0} (P : X → Type 0) (test : X → Bool) (xs : List X) → AllByRecursion P xs → IfSome (find test xs) P
if_found P test [] h = tt
if_found P test (x ∷ xs) h = go (test x) (if_found P test xs h.1)
  where
    go : (b : Bool) → IfSome (find test xs) P → IfSome (cond b (Some x) (find test xs)) P
    go true rest = h.0
    go false rest = rest

pub if_some-or : {X : Type 0} (P : X → Type 0) (a b : Option X) → IfSome a P → IfSome b P → IfSome (option_or a b) P
if_some-or P None b h k = k
if_some-or P (Some x) b h k = h

pub if_some-map : {X Y : Type 0} (P : X → Type 0) (Q : Y → Type 0) (f : X → Y) (o : Option X) → IfSome o P → ((x : X) → P x → Q (f x)) → IfSome (option_map f o) Q
if_some-map P Q f None h k = tt
if_some-map P Q f (Some x) h k = k x h

pub if_some-and_then : {X Y : Type 0} (P : X → Type 0) (Q : Y → Type 0) (f : X → Option Y) (o : Option X) → IfSome o P → ((x : X) → P x → IfSome (f x) Q) → IfSome (option_and_then f o) Q
if_some-and_then P Q f None h k = tt
if_some-and_then P Q f (Some x) h k = k x h
