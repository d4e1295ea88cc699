-- Clauses whose literals get their new names in place, one after the other.
use Rattle.std.proofs.Common.{◌≡◌, ℕ, ◌+◌, ◌<◌, List, [], ◌∷◌, ◌++◌, length, get_or, set, take, drop, sym, ◌∙◌, ap, arith, append_assoc}
use Rattle.std.specs.Global.{Vec}
use Rattle.std.specs.Vec.{with_items}
use Rattle.std.proofs.lemmas.List.{drop_more, get_or_at, set_at, length-take-le, map-set, with_items_is, get_or-map}
use Rattle.clause_chain.specs.Chaining.{clauses_of}
use Rattle.rules_resolution.specs.Literal.{Lit}
use Rattle.rules_resolution.specs.Renaming.{atom_name_at, renamed_atom, renamed_from, renamed_in, joined_clauses}
use Rattle.rules_resolution.proofs.Premises.{length-clauses_of}
use Rattle.rules_resolution.proofs.Renamings.{length-renamed_from, length-renamed_in, renamed_from-more, renamed_in-more}

-- where those before place i are done, one more is written
module _ {X : Type 0} (R ys xs : List X) (y d : X) (i : ℕ) (long : length R ≡ i) (are : xs ≡ R ++ y ∷ ys) where
  read_next : get_or xs i d ≡ y
  read_next = ap (λ zs. get_or zs i d) are ∙ get_or_at R y ys d i long

  write_next : (S : List X) (z : X) → S ≡ R ++ z ∷ [] → set xs i z ≡ S ++ ys
  write_next S z is =
      ap (λ zs. set zs i z) are
      ∙ (set_at R y ys z i long ∙ (sym (append_assoc R (z ∷ []) ys) ∙ ap (λ zs. zs ++ ys) (sym is)))

pub literal_in_place : (names : List ℕ) (from i n : ℕ) (old clause : List Lit) (d : Lit) → i < length old → n ≡ from + i
    → clause ≡ renamed_from names from (take i old) ++ drop i old
    → set clause i (renamed_atom (get_or clause i d) (atom_name_at names n)) ≡ renamed_from names from (take (i + 1) old) ++ drop (i + 1) old
literal_in_place names from i n old clause d h e are =
    let R = renamed_from names from (take i old) in
    let next = are ∙ ap (λ zs. R ++ zs) (drop_more old i d h) in
    let long = length-renamed_from names from (take i old) ∙ length-take-le i old (omega (arith, h)) in
    let read = read_next R (drop (i + 1) old) clause (get_or old i d) d i long next in
    write_next R (drop (i + 1) old) clause (get_or old i d) d i long next (renamed_from names from (take (i + 1) old))
    (renamed_atom (get_or clause i d) (atom_name_at names n))
    (renamed_from-more names from i n old d h e ∙ ap (λ l. R ++ renamed_atom l (atom_name_at names n) ∷ []) (sym read))

-- where the premises before place i have new names, the literals of premise i are as they were
module _ (names : List ℕ) (old vs : List (Vec Lit)) (i : ℕ) (d : Vec Lit) (within : i < length old) (same : length vs ≡ length old)
    (are : clauses_of vs ≡ renamed_in names 0 (clauses_of (take i old)) ++ clauses_of (drop i old)) where
  next : clauses_of vs ≡ renamed_in names 0 (clauses_of (take i old)) ++ (get_or old i d).items ∷ clauses_of (drop (i + 1) old)
  next = are ∙ ap (λ (ws : List (Vec Lit)). renamed_in names 0 (clauses_of (take i old)) ++ clauses_of ws) (drop_more old i d within)

  long : length (renamed_in names 0 (clauses_of (take i old))) ≡ i
  long =
      length-renamed_in names 0 (clauses_of (take i old))
      ∙ (length-clauses_of (take i old) ∙ length-take-le i old (omega (arith, within)))

  pub clause_still : (get_or vs i d).items ≡ (get_or old i d).items
  clause_still =
      sym (get_or-map (λ (w : Vec Lit). w.items) vs i d [] (omega (arith, within, same)))
      ∙ read_next (renamed_in names 0 (clauses_of (take i old))) (clauses_of (drop (i + 1) old)) (clauses_of vs) (get_or old i d).items [] i long next

  pub clause_in_place : (from : ℕ) (v : Vec Lit) → from ≡ length (joined_clauses (clauses_of (take i old)))
      → v.items ≡ renamed_from names from (get_or vs i d).items
      → clauses_of (set vs i v) ≡ renamed_in names 0 (clauses_of (take (i + 1) old)) ++ clauses_of (drop (i + 1) old)
  clause_in_place from v size is =
      map-set (λ (w : Vec Lit). w.items) vs i v
      ∙ write_next (renamed_in names 0 (clauses_of (take i old))) (clauses_of (drop (i + 1) old)) (clauses_of vs) (get_or old i d).items [] i long next
      (renamed_in names 0 (clauses_of (take (i + 1) old))) v.items
      (renamed_in-more names old i from d within size
      ∙ ap (λ ls. renamed_in names 0 (clauses_of (take i old)) ++ ls ∷ []) (ap (renamed_from names from) (sym clause_still) ∙ sym is))

-- what is written to a vector as a slice is what it has
pub written : (names : List ℕ) (from : ℕ) (v : Vec Lit) (slice ws : List Lit) → slice ≡ v.items → ws ≡ renamed_from names from slice
    → (with_items v ws).items ≡ renamed_from names from v.items
written names from v slice ws here is =
    let made = is ∙ ap (renamed_from names from) here in
    let long = ap length made ∙ length-renamed_from names from v.items in
    with_items_is v ws (let n = v.ok.0 in omega arith) ∙ made
