-- Cited by crates above. What is put on a stack from its end on.
use Rattle.std.proofs.Common.{◌≡◌, ℕ, zero, suc, ◌+◌, ◌-◌, ◌<◌, ◌≤◌, List, [], ◌∷◌, ◌++◌, length, drop, get_or, reverse, Some, refl, sym, ◌∙◌, ap, subst, arith, add-one, drop-cons}
use Rattle.std.specs.List.{slice_get}
use Rattle.std.proofs.lemmas.List.{append-nil, reverse-append, drop_all}
use Rattle.sym_table.specs.Table.{Table}
use Rattle.term_model.specs.Terms.{Term, numeral}
use Rattle.term_pool.specs.Reading.{arguments_of, HasArgument}
use Rattle.term_pool.specs.Views.{TermsView, RefersTo, ReferToAll}
use Rattle.schema_match.specs.Arguments.{HasSoMany}
use Rattle.schema_match.specs.Pushing.{AddsArguments}

-- one more from the end
drop_less : {X : Type 0} (xs : List X) (n : ℕ) (d : X) → 0 < n → n ≤ length xs → drop (n - 1) xs ≡ get_or xs (n - 1) d ∷ drop n xs
drop_less xs n d some within =
    let back : n - 1 + 1 ≡ n = omega arith in
    subst (λ k. drop (n - 1) xs ≡ get_or xs (n - 1) d ∷ drop k xs) back (rw (add-one) (drop-cons xs (n - 1) d (omega arith)))

reverse_cons : {X : Type 0} (x : X) (xs : List X) → reverse (x ∷ xs) ≡ reverse xs ++ x ∷ []
reverse_cons x xs = reverse-append (x ∷ []) xs

pub stacked_none : (xs items : List ℕ) → items ≡ [] → items ≡ reverse (drop (length xs) xs)
stacked_none xs items empty = empty ∙ sym (ap reverse (drop_all (length xs) xs (omega arith)))

pub stacked_more : (xs items new : List ℕ) (n x : ℕ) → 0 < n → n ≤ length xs → x ≡ get_or xs (n - 1) x → items ≡ reverse (drop n xs) → new ≡ items ++ x ∷ [] → new ≡ reverse (drop (n - 1) xs)
stacked_more xs items new n x some within is so_far pushed =
    pushed ∙ (ap (λ ys. ys ++ x ∷ []) so_far ∙ (sym (reverse_cons x (drop n xs)) ∙ ap reverse (ap (λ y. y ∷ drop n xs) is ∙ sym (drop_less xs n x some within))))

-- the arguments of an application
module _ (v : TermsView) (r count : ℕ) where
  pub adds_none : (old : List ℕ) → AddsArguments v r count count old old
  adds_none old = record {
    within = omega arith;
    arguments = [];
    added = sym (append-nil old);
    refer = λ s t refers many. subst (ReferToAll s v []) (sym (drop_all count (arguments_of t) (omega (arith, many)))) tt;
  }

  pub has_argument : (left i : ℕ) → 0 < left → left ≤ count → i ≡ left - 1 → HasSoMany v r count → HasArgument v r i
  has_argument left i some within is h =
      let many = h.many in
      record { symbols = h.symbols; means = h.means; refers = h.refers; there = omega (arith, some, within, is, many) }

  there : (ts : List Term) (i : ℕ) (d : Term) → i < length ts → slice_get ts i ≡ Some (get_or ts i d)
  there [] i d below = absurd (omega (arith, below))
  there (t ∷ ts) zero d below = refl
  there (t ∷ ts) (suc i) d below = there ts i d (omega (arith, below))

  pub adds_more : (old items new : List ℕ) (left i a : ℕ) → 0 < left → i ≡ left - 1 → new ≡ items ++ a ∷ [] → ((s : Table) (t b : Term) → RefersTo s v r t → slice_get (arguments_of t) i ≡ Some b → RefersTo s v a b) → AddsArguments v r count left old items → AddsArguments v r count i old new
  adds_more old items new left i a some is pushed argument h =
      let within = h.within in record {
        within = omega (arith, is, within);
        arguments = a ∷ h.arguments;
        added = pushed ∙ (ap (λ xs. xs ++ a ∷ []) h.added ∙ joined old h.arguments);
        refer = λ s t refers many.
            (let below : i < length (arguments_of t) = omega (arith, is, some, within, many) in
            let d = numeral 0 in
            let list : drop i (arguments_of t) ≡ get_or (arguments_of t) i d ∷ drop left (arguments_of t) = rw is (drop_less (arguments_of t) left d some (omega (arith, within, many))) in
            subst (ReferToAll s v (a ∷ h.arguments)) (sym list) (argument s t _ refers (there (arguments_of t) i d below), h.refer s t refers many));
      }
    where
      joined : (xs ys : List ℕ) → (xs ++ reverse ys) ++ a ∷ [] ≡ xs ++ reverse (a ∷ ys)
      joined [] ys = sym (reverse_cons a ys)
      joined (x ∷ xs) ys = ap (λ zs. x ∷ zs) (joined xs ys)
