-- Lists from which an item is removed, and lists without repeats: one item more, and that there is one. Crates above cite these.
use Rattle.std.proofs.Common.{◌≡◌, ◌≢◌, inl, inr, List, [], ◌∷◌, ◌++◌, refl, sym, ◌∙◌, subst, Contains}
use Rattle.std.proofs.lemmas.List.{append-nil, append_assoc}
use Rattle.std.proofs.lemmas.List.Elements.{Contains-append_left}
use Rattle.rule_model.specs.Resolution.{LeavesWithout, IsFirstsOf}

-- what is removed is one item more
pub without_last : {X : Type 0} (p : X) (xs rest : List X) (x : X) → LeavesWithout p xs rest → x ≡ p → LeavesWithout p (xs ++ x ∷ []) rest
without_last p [] rest x w same = inl (same, w)
without_last p (y ∷ xs) rest x (inl (here, w)) same = inl (here, without_last p xs rest x w same)
without_last p (y ∷ xs) rest x (inr (other, (us, e, w))) same = inr (other, (us, e, without_last p xs us x w same))

pub kept_last : {X : Type 0} (p : X) (xs rest : List X) (x : X) → LeavesWithout p xs rest → x ≢ p → LeavesWithout p (xs ++ x ∷ []) (rest ++ x ∷ [])
kept_last p [] rest x w other = inr (other, ([], rw w refl, refl))
kept_last p (y ∷ xs) rest x (inl (here, w)) other = inl (here, kept_last p xs rest x w other)
kept_last p (y ∷ xs) rest x (inr (differs, (us, e, w))) other = inr (differs, (us ++ x ∷ [], rw e refl, kept_last p xs us x w other))

-- an item more of which the first ones are told
pub repeated_last : {X : Type 0} (seen xs rest : List X) (x : X) → IsFirstsOf seen xs rest → Contains (seen ++ rest) x → IsFirstsOf seen (xs ++ x ∷ []) rest
repeated_last seen [] rest x f has = inl (subst (λ l. Contains l x) (rw f (append-nil seen)) has, f)
repeated_last seen (y ∷ xs) rest x (inl (before, f)) has = inl (before, repeated_last seen xs rest x f has)
repeated_last seen (y ∷ xs) rest x (inr (new, (us, e, f))) has =
    inr (new, (us, e, repeated_last (seen ++ y ∷ []) xs us x f (rw (append_assoc seen (y ∷ []) us) (rw e at has))))

pub new_last : {X : Type 0} (seen xs rest : List X) (x : X) → IsFirstsOf seen xs rest → (Contains (seen ++ rest) x → ⊥)
    → IsFirstsOf seen (xs ++ x ∷ []) (rest ++ x ∷ [])
new_last seen [] rest x f lacks =
    inr (λ has. lacks (Contains-append_left seen rest x has), ([], rw f refl, refl))
new_last seen (y ∷ xs) rest x (inl (before, f)) lacks = inl (before, new_last seen xs rest x f lacks)
new_last seen (y ∷ xs) rest x (inr (new, (us, e, f))) lacks =
    inr (new, (us ++ x ∷ [], rw e refl, new_last (seen ++ y ∷ []) xs us x f (λ has. lacks (rw e (rw (append_assoc seen (y ∷ []) us) at has)))))

-- there is one such list
pub leaves_one : {X : Type 0} (p : X) (xs a b : List X) → LeavesWithout p xs a → LeavesWithout p xs b → a ≡ b
leaves_one p [] a b h k = h ∙ sym k
leaves_one p (x ∷ xs) a b (inl (same, h)) (inl (again, k)) = leaves_one p xs a b h k
leaves_one p (x ∷ xs) a b (inl (same, h)) (inr (other, k)) = absurd (other same)
leaves_one p (x ∷ xs) a b (inr (other, h)) (inl (same, k)) = absurd (other same)
leaves_one p (x ∷ xs) a b (inr (other, (us, e, h))) (inr (again, (vs, f, k))) =
    rw (e, f, leaves_one p xs us vs h k) refl

pub firsts_one : {X : Type 0} (seen xs a b : List X) → IsFirstsOf seen xs a → IsFirstsOf seen xs b → a ≡ b
firsts_one seen [] a b h k = h ∙ sym k
firsts_one seen (x ∷ xs) a b (inl (has, h)) (inl (again, k)) = firsts_one seen xs a b h k
firsts_one seen (x ∷ xs) a b (inl (has, h)) (inr (lacks, k)) = absurd (lacks has)
firsts_one seen (x ∷ xs) a b (inr (lacks, h)) (inl (has, k)) = absurd (lacks has)
firsts_one seen (x ∷ xs) a b (inr (lacks, (us, e, h))) (inr (again, (vs, f, k))) =
    rw (e, f, firsts_one (seen ++ x ∷ []) xs us vs h k) refl
