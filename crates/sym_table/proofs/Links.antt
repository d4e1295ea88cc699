-- What a table keeps linked stays so as it grows.
use Rattle.std.proofs.Common.{◌≡◌, ◌⊎◌, inl, inr, ℕ, ◌≤◌, ◌+◌, true, false, cond, List, [], ◌∷◌, ◌++◌, take, length, slice_get, Some, sym, ◌∙◌, ap, arith, subst}
use Rattle.std.specs.List.{count_by}
use Rattle.std.proofs.lemmas.List.{length-append, take-append-le}
use Rattle.std.proofs.lemmas.List.Sums.{sum_by-append}
use Rattle.std.proofs.lemmas.Option.{slice_get_within}
use Rattle.std.proofs.Math.Seq.{take-append_seam}
use Rattle.name_set.proofs.Positions.{slice_get-push_cases}
use Rattle.sym_table.specs.declared.cells.Symbol.{Symbol}
use Rattle.sym_table.specs.declared.cells.Function.{Function}
use Rattle.sym_table.specs.Names.{Lacks, PlacesItem}
use Rattle.sym_table.specs.Cells.{is_function_key, IsInRange, AreKeysLinked}
use Rattle.sym_table.proofs.Lists.{AreApart-push, AreApart-PlacesItem}
use Rattle.term_model.proofs.Lists.{slice_get-left, slice_get-last}

-- a wider range has the keys of a narrower one
pub in_wider : (f g v w : ℕ) (key : Symbol) → f ≤ g → v ≤ w → IsInRange f v key → IsInRange g w key
in_wider f g v w (Symbol.Function n) a b h = omega arith
in_wider f g v w (Symbol.Variable n sort) a b h = omega arith
in_wider f g v w (Symbol.Numeral n) a b h = h

count-push : (keys : List Symbol) (key : Symbol) → count_by is_function_key (keys ++ key ∷ []) ≡ count_by is_function_key keys + (cond (is_function_key key) 1 0)
count-push keys key = sum_by-append (λ x. cond (is_function_key x) 1 0) keys (key ∷ []) ∙ omega arith

-- how many functions are before a key, after a push
count-before : (keys : List Symbol) (key : Symbol) (k : ℕ) → k ≤ length keys → count_by is_function_key (take k (keys ++ key ∷ [])) ≡ count_by is_function_key (take k keys)
count-before keys key k h = ap (count_by is_function_key) (take-append-le k keys (key ∷ []) h)

count-all_before : (keys : List Symbol) (key : Symbol) → count_by is_function_key (take (length keys) (keys ++ key ∷ [])) ≡ count_by is_function_key keys
count-all_before keys key = ap (count_by is_function_key) (take-append_seam keys (key ∷ []))

pub length-push : {X : Type 0} (xs : List X) (x : X) → length (xs ++ x ∷ []) ≡ length xs + 1
length-push xs x = length-append xs (x ∷ [])

-- the next function has no key yet
pub lacks_function : (names : List (List ℕ)) (functions : List Function) (variables : List (List ℕ)) (keys : List Symbol) → AreKeysLinked names functions variables keys → Lacks keys (Symbol.Function (length functions))
lacks_function names functions variables keys h k e = absurd (let r = h.in_range k (Symbol.Function (length functions)) e in omega arith)

-- a new function with its key
pub AreLinked-push_function : (names : List (List ℕ)) (functions : List Function) (variables : List (List ℕ)) (keys : List Symbol) (name : List ℕ) (f : Function) → AreKeysLinked names functions variables keys → Lacks names name → f.place ≡ length keys → AreKeysLinked (names ++ name ∷ []) (functions ++ f ∷ []) variables (keys ++ Symbol.Function (length functions) ∷ [])
AreLinked-push_function names functions variables keys name f h new p = record {
  named = omega (arith, length-push names name, length-push functions f, h.named);
  functions_apart = AreApart-push names name h.functions_apart new;
  variables_apart = h.variables_apart;
  keys_apart = AreApart-push keys (Symbol.Function (length functions)) h.keys_apart (lacks_function names functions variables keys h);
  in_range = λ k key e. range k key (slice_get-push_cases keys (Symbol.Function (length functions)) k key e);
  placed = λ n g e. place n g (slice_get-push_cases functions f n g e);
  numbered = λ k n e. number k n (slice_get-push_cases keys (Symbol.Function (length functions)) k (Symbol.Function n) e);
  counted = omega (arith, count-push keys (Symbol.Function (length functions)), h.counted, length-push functions f);
}
  where
    range : (k : ℕ) (key : Symbol) → (slice_get keys k ≡ Some key) ⊎ ((k ≡ length keys) × (Symbol.Function (length functions) ≡ key)) → IsInRange (length (functions ++ f ∷ [])) (length variables) key
    range k key (inl e) = in_wider _ _ _ _ key (omega (arith, length-push functions f)) (omega arith) (h.in_range k key e)
    range k key (inr e) = subst (IsInRange (length (functions ++ f ∷ [])) (length variables)) e.1 (omega (arith, length-push functions f))

    place : (n : ℕ) (g : Function) → (slice_get functions n ≡ Some g) ⊎ ((n ≡ length functions) × (f ≡ g)) → slice_get (keys ++ Symbol.Function (length functions) ∷ []) g.place ≡ Some (Symbol.Function n)
    place n g (inl e) = slice_get-left keys (Symbol.Function (length functions) ∷ []) g.place (Symbol.Function n) (h.placed n g e)
    place n g (inr e) =
        let here : g.place ≡ length keys = ap (λ (x : Function). x.place) (sym e.1) ∙ p in
        ap (slice_get (keys ++ Symbol.Function (length functions) ∷ [])) here ∙ slice_get-last keys (Symbol.Function (length functions)) ∙ ap (λ m. Some (Symbol.Function m)) (sym e.0)

    number : (k n : ℕ) → (slice_get keys k ≡ Some (Symbol.Function n)) ⊎ ((k ≡ length keys) × (Symbol.Function (length functions) ≡ Symbol.Function n)) → count_by is_function_key (take k (keys ++ Symbol.Function (length functions) ∷ [])) ≡ n
    number k n (inl e) = count-before keys (Symbol.Function (length functions)) k (let w = slice_get_within keys k _ e in omega arith) ∙ h.numbered k n e
    number k n (inr e) =
        let same : length functions ≡ n = let f = e.1 in cc in
        ap (λ i. count_by is_function_key (take i (keys ++ Symbol.Function (length functions) ∷ []))) e.0 ∙ count-all_before keys (Symbol.Function (length functions)) ∙ h.counted ∙ same

-- a new key that is no function
pub AreLinked-push_key : (names : List (List ℕ)) (functions : List Function) (variables : List (List ℕ)) (keys : List Symbol) (key : Symbol) → AreKeysLinked names functions variables keys → Lacks keys key → IsInRange (length functions) (length variables) key → is_function_key key ≡ false → AreKeysLinked names functions variables (keys ++ key ∷ [])
AreLinked-push_key names functions variables keys key h new r other = record {
  named = h.named;
  functions_apart = h.functions_apart;
  variables_apart = h.variables_apart;
  keys_apart = AreApart-push keys key h.keys_apart new;
  in_range = λ k x e. range k x (slice_get-push_cases keys key k x e);
  placed = λ n f e. slice_get-left keys (key ∷ []) f.place (Symbol.Function n) (h.placed n f e);
  numbered = λ k n e. number k n (slice_get-push_cases keys key k (Symbol.Function n) e);
  counted = count-push keys key ∙ ap (λ b. count_by is_function_key keys + cond b 1 0) other ∙ omega (arith, h.counted);
}
  where
    range : (k : ℕ) (x : Symbol) → (slice_get keys k ≡ Some x) ⊎ ((k ≡ length keys) × (key ≡ x)) → IsInRange (length functions) (length variables) x
    range k x (inl e) = h.in_range k x e
    range k x (inr e) = subst (IsInRange (length functions) (length variables)) e.1 r

    number : (k n : ℕ) → (slice_get keys k ≡ Some (Symbol.Function n)) ⊎ ((k ≡ length keys) × (key ≡ Symbol.Function n)) → count_by is_function_key (take k (keys ++ key ∷ [])) ≡ n
    number k n (inl e) = count-before keys key k (let w = slice_get_within keys k _ e in omega arith) ∙ h.numbered k n e
    number k n (inr e) = absurd (let yes : is_function_key key ≡ true = ap is_function_key e.1 in let clash : true ≡ false = sym yes ∙ other in cc)

-- a list in which an item was placed is as long or longer
pub length-PlacesItem : {X : Type 0} (old new : List X) (k : ℕ) (x : X) → PlacesItem old new k x → (length old ≤ length new) × (length new ≤ length old + 1) × (slice_get new k ≡ Some x)
length-PlacesItem old new k x (inl h) =
    let e = ap length h.1 in
    ((omega arith), (omega arith), ap (λ xs. slice_get xs k) h.1 ∙ h.0)
length-PlacesItem old new k x (inr h) =
    let e : length new ≡ length old + 1 = ap length h.2 ∙ length-push old x in
    ((omega arith), (omega arith), ap (λ xs. slice_get xs k) h.2 ∙ ap (slice_get (old ++ x ∷ [])) h.1 ∙ slice_get-last old x)

-- a key that is no function was placed
pub AreLinked-PlacesItem : (names : List (List ℕ)) (functions : List Function) (variables : List (List ℕ)) (keys more : List Symbol) (k : ℕ) (key : Symbol) → AreKeysLinked names functions variables keys → IsInRange (length functions) (length variables) key → is_function_key key ≡ false → PlacesItem keys more k key → AreKeysLinked names functions variables more
AreLinked-PlacesItem names functions variables keys more k key h r other (inl e) = subst (AreKeysLinked names functions variables) (sym e.1) h
AreLinked-PlacesItem names functions variables keys more k key h r other (inr e) = subst (AreKeysLinked names functions variables) (sym e.2) (AreLinked-push_key names functions variables keys key h e.0 r other)

-- a name of a variable was placed
pub AreLinked-more_variables : (names : List (List ℕ)) (functions : List Function) (variables more : List (List ℕ)) (keys : List Symbol) (k : ℕ) (name : List ℕ) → AreKeysLinked names functions variables keys → PlacesItem variables more k name → AreKeysLinked names functions more keys
AreLinked-more_variables names functions variables more keys k name h p = record {
  named = h.named;
  functions_apart = h.functions_apart;
  variables_apart = AreApart-PlacesItem variables more k name h.variables_apart p;
  keys_apart = h.keys_apart;
  in_range = λ j key e. in_wider _ _ _ _ key (omega arith) (length-PlacesItem variables more k name p).0 (h.in_range j key e);
  placed = h.placed;
  numbered = h.numbered;
  counted = h.counted;
}
