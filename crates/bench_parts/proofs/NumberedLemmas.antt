-- Proofs of assumes whose ids have numbers.
use Rattle.std.proofs.Common.{◌≡◌, ◌<◌, ◌+◌, ℕ, List, [], ◌∷◌, refl, sym, subst, arith, All, Contains}
use Rattle.std.proofs.lemmas.List.{map-append}
use Rattle.std.proofs.lemmas.List.Elements.{All-contains, All-push}
use Rattle.rule_model.specs.RuleNames.{IsSymbolName}
use Rattle.rule_model.specs.Scopes.{Nesting, outermost, Scope, commands_in, first_index, next_index}
use Rattle.rule_model.specs.Visibility.{direct, sight, visible_ids, open_ids}
use Rattle.rule_model.specs.WellFormed.{IsNewId}
use Rattle.rule_model.specs.Writing.{unwritten, add_assume}
use Rattle.bench_parts.specs.Numbered.{number_of, IsNumberedScope}

below : (n k : ℕ) → k < n → k ≡ n → ⊥
below n k l e = absurd (omega arith)

none_open : (nesting : Nesting ℕ ℕ) (id : List ℕ) → nesting ≡ outermost → ¬ Contains (open_ids nesting) id
none_open nesting id e h = empty (subst (λ n. Contains (open_ids n) id) e h)
  where
    empty : ¬ Contains (open_ids {V = ℕ} {T = ℕ} outermost) id
    empty k = let l = k.1 in absurd (omega arith)

pub is_new : (scope : Scope ℕ ℕ) (n : ℕ) (id : List ℕ) → IsNumberedScope scope n → number_of id ≡ n → IsSymbolName id → IsNewId scope.nesting scope.items id
is_new scope n id h is symbol = record {
  symbol = symbol;
  unseen = λ k. below n (number_of id) (All-contains (λ x. number_of x < n) (visible_ids outermost scope.items) id h.ids (subst (λ m. Contains (visible_ids m scope.items) id) h.closed k)) is;
  not_open = none_open scope.nesting id h.closed;
}

pub is_next : (scope : Scope ℕ ℕ) (n : ℕ) → IsNumberedScope scope n → next_index scope ≡ n
is_next scope n h = go scope.nesting h.closed
  where
    go : (m : Nesting ℕ ℕ) → m ≡ outermost → next_index (record { nesting = m; items = scope.items }) ≡ n
    go m e = rw e (let c = h.commands in omega arith)

grown : (n : ℕ) (ids : List (List ℕ)) → All (λ id. number_of id < n) ids → All (λ id. number_of id < n + 1) ids
grown n ids h k d l = let low = h k d l in omega arith

pub one_more : (scope new : Scope ℕ ℕ) (n r : ℕ) (id : List ℕ) → IsNumberedScope scope n → number_of id ≡ n → new ≡ add_assume scope id r → IsNumberedScope new (n + 1)
one_more scope new n r id h is e = rw e (record {
  closed = h.closed;
  commands = let c = h.commands in omega arith;
  ids = subst (All (λ x. number_of x < n + 1)) (sym (map-append (λ s. s.id) (direct outermost scope.items) (sight (first_index {V = ℕ} {T = ℕ} outermost + commands_in scope.items) id ∷ [])))
      (All-push (λ x. number_of x < n + 1) (visible_ids outermost scope.items) id (grown n (visible_ids outermost scope.items) h.ids) (let j = is in omega arith));
})

pub nothing_written : IsNumberedScope unwritten 0
nothing_written = record { closed = refl; commands = refl; ids = λ k d l. absurd (omega arith) }
