-- Private. How a builder comes to a reply, command by command.
use Rattle.std.proofs.Common.{◌≡◌, ℕ, suc, ◌<◌, ◌+◌, ◌-◌, ◌^◌, true, List, [], ◌∷◌, ◌++◌, take, get_or, length, refl, sym, ap, ◌∙◌, subst}
use Rattle.std.proofs.Common.{take-suc, arith}
use Rattle.rule_model.specs.Proofs.{Step, ProofItems, no_items, with_step}
use Rattle.rule_model.specs.Scopes.{outermost, Scope, at, commands_in, next_index}
use Rattle.rule_model.specs.WellFormed.{IsNewId, MayStand}
use Rattle.rule_model.specs.Writing.{is_open_id, take_step, MayTake}
use Rattle.accepted_replies.specs.Replies.{Inference, assumed_behind, assumes_behind, inferring, resolving, MayInfer}
use Rattle.accepted_replies.proofs.InferenceRules.{inferring_has_rule, resolving_has_rule}
use Rattle.accepted_replies.proofs.ReplyForm.{may_infer, may_resolve}
use Rattle.accepted_replies.proofs.ReplyLines.{count_before}

closes_none : (V T : Type 0) (id : List ℕ) → is_open_id {V = V} {T = T} outermost id ≡ true → ⊥
closes_none V T id e = cc

module _ {V T : Type 0} where
  assumes_end : (items : ProofItems V T) (ts : List T) (t : T) → assumes_behind items (ts ++ t ∷ []) ≡ assumed_behind (assumes_behind items ts) t
  assumes_end items [] t = refl
  assumes_end items (u ∷ ts) t = assumes_end (assumed_behind items u) ts t

  pub assumes_next : (items : ProofItems V T) (ts : List T) (k : ℕ) (d : T) → k < length ts
      → assumes_behind items (take (suc k) ts) ≡ assumed_behind (assumes_behind items (take k ts)) (get_or ts k d)
  assumes_next items ts k d less = ap (assumes_behind items) (take-suc ts k d less) ∙ assumes_end items (take k ts) (get_or ts k d)

  -- one more term of a list is assumed
  pub one_more : (ts : List T) (k : ℕ) (t : T) (old new : Scope V T) → k < length ts → t ≡ get_or ts k t
      → old ≡ at outermost (assumes_behind no_items (take k ts)) → new ≡ at outermost (assumed_behind old.items t)
      → new ≡ at outermost (assumes_behind no_items (take (suc k) ts))
  one_more ts k t old new less is begun step =
      step
      ∙ (ap (λ s. at outermost (assumed_behind s.items t)) begun
      ∙ (ap (λ u. at outermost (assumed_behind (assumes_behind no_items (take k ts)) u)) is
      ∙ ap (λ items. at outermost items) (sym (assumes_next no_items ts k t less))))

  -- no anchor is open
  pub id_here : (scope : Scope V T) (id : List ℕ) → scope.nesting ≡ outermost → IsNewId outermost scope.items id → IsNewId scope.nesting scope.items id
  id_here scope id outer new = subst (λ n. IsNewId n scope.items id) (sym outer) new

  pub takes : (scope : Scope V T) (s : Step T) → scope.nesting ≡ outermost → MayStand outermost scope.items s → MayTake scope s
  takes scope s outer may = record {
    closing = λ e. absurd (closes_none V T s.id (subst (λ n. is_open_id n s.id ≡ true) outer e));
    standing = λ _. subst (λ n. MayStand n scope.items s) (sym outer) may;
  }

  pub taken : (scope : Scope V T) (s : Step T) → scope.nesting ≡ outermost → take_step scope s ≡ at outermost (with_step scope.items s)
  taken scope s outer = rw outer refl

-- the last two steps may stand where they are put
module _ {V T : Type 0} (assumed : List T) (x : Inference T) (few : length assumed + 2 < 2 ^ 32 - 1) (may : MayInfer x) where
  abbrev IsBegun : Scope V T → Type 0
  IsBegun scope = scope ≡ at outermost (assumes_behind no_items assumed)

  pub infers : (scope : Scope V T) → IsBegun scope → MayStand outermost scope.items (inferring (length assumed) x)
  infers scope begun =
      subst (λ s. MayStand outermost s.items (inferring (length assumed) x)) (sym begun)
      (may_infer V assumed x (omega (arith, few)) (inferring_has_rule (length assumed) x may))

  pub resolves : (old new : Scope V T) → IsBegun old → new ≡ at outermost (with_step old.items (inferring (length assumed) x))
      → MayStand outermost new.items (resolving (length assumed))
  resolves old new begun step =
      let whole : new ≡ at outermost (with_step (assumes_behind no_items assumed) (inferring (length assumed) x)) =
      step ∙ ap (λ s. at outermost (with_step s.items (inferring (length assumed) x))) begun in
      subst (λ s. MayStand outermost s.items (resolving (length assumed))) (sym whole)
      (may_resolve V assumed x (omega (arith, few)) (resolving_has_rule (length assumed)))

  -- there is room for them
  pub room : (scope : Scope V T) → IsBegun scope → next_index scope + 1 < 2 ^ 32 - 1
  room scope begun =
      let here : next_index scope ≡ 0 + commands_in (assumes_behind {V = V} no_items assumed) = ap next_index begun in
      let count = count_before V assumed x in
      omega (arith, few, here, count)

  pub room_behind : (old new : Scope V T) → IsBegun old → new ≡ at outermost (with_step old.items (inferring (length assumed) x))
      → next_index new + 1 < 2 ^ 32 - 1
  room_behind old new begun step =
      let there : next_index new ≡ 0 + suc (commands_in old.items) = ap next_index step in
      let here : commands_in old.items ≡ commands_in (assumes_behind {V = V} no_items assumed) = ap (λ s. commands_in s.items) begun in
      let count = count_before V assumed x in
      omega (arith, few, there, here, count)
