-- What a run of `fill` shows, and what is so where memory ran out before the words were read.
use Rattle.std.proofs.Common.{◌≡◌, ◌⊎◌, inl, inr, ℕ, List, None, Some, sym, ◌∙◌, subst, arith}
use Rattle.file_ports.specs.Faults.{HasRisen}
use Rattle.command_words.specs.CommandLine.{Asked, Word}
use Rattle.named_proofs.specs.Written.{SinkView}
use Rattle.hole_fillers.specs.Benches.{Seat, with_budget}
use Rattle.carcara_cli.specs.Outcomes.{Outcome}
use Rattle.carcara_cli.specs.TopCall.{IsPrinted, IsShownUnsatisfiable}
use Rattle.filling_cli.specs.Ending.{FolderViews, IsRun, IsRunOrNot}
use Rattle.filling_cli.specs.Filling.{AsksInOrder, FillsTo, IsExactlyFilled}
use Rattle.filling_cli.specs.Words.{fill_of}
use Rattle.filling_cli.proofs.Coming.{nothing}
use Rattle.filling_cli.proofs.Showing as Showing
use Rattle.filling_cli.proofs.Spelled.{same_asked}

module _ (bits : ℕ) (f : FolderViews) (words : List Word) (old new : List Seat) (first last : SinkView) (status : ℕ)
    (run : IsRunOrNot bits f words old new first last status) where
  -- where the words spell no `fill`, memory ran out before that was known
  pub no_memory : fill_of words ≡ None → (status ≡ 7) × (new ≡ old) × (last ≡ first)
  no_memory none = go run
    where
      go : IsRunOrNot bits f words old new first last status → (status ≡ 7) × (new ≡ old) × (last ≡ first)
      go (inl h) = h
      go (inr h) = let bad : Some h.0 ≡ None = sym h.1 ∙ none in absurd cc

  printed_nothing : (M : Outcome → Type 0) → status ≡ 7 → last ≡ first → IsPrinted M first.written last.written status
  printed_nothing M seven same =
      subst (λ n. IsPrinted M first.written last.written n) (sym seven)
      (subst (λ (v : SinkView). IsPrinted M first.written v.written 7) (sym same) (nothing M first.written))

  pub printed : (M : Outcome → Type 0) → fill_of words ≡ None → IsPrinted M first.written last.written status
  printed M none = let h = no_memory none in printed_nothing M h.0 h.2

  module _ (p : Asked) (is : fill_of words ≡ Some p) where
    the_run : ((status ≡ 7) × (new ≡ old) × (last ≡ first)) ⊎ IsRun bits f p old new first last status
    the_run = go run
      where
        go : IsRunOrNot bits f words old new first last status →
            ((status ≡ 7) × (new ≡ old) × (last ≡ first)) ⊎ IsRun bits f p old new first last status
        go (inl h) = inl h
        go (inr h) = inr (subst (λ q. IsRun bits f q old new first last status) (same_asked h.0 p (sym h.1 ∙ is)) h.2)

    pub filled : IsPrinted (FillsTo bits f.content f.before f.after p (with_budget old) new) first.written last.written status
    filled = go the_run
      where
        go : ((status ≡ 7) × (new ≡ old) × (last ≡ first)) ⊎ IsRun bits f p old new first last status →
            IsPrinted (FillsTo bits f.content f.before f.after p (with_budget old) new) first.written last.written status
        go (inl h) = printed_nothing _ h.0 h.2
        go (inr h) = h.printed

    pub asks : AsksInOrder bits f.content p old new status
    asks = go the_run
      where
        go : ((status ≡ 7) × (new ≡ old) × (last ≡ first)) ⊎ IsRun bits f p old new first last status → AsksInOrder bits f.content p old new status
        go (inl h) = inl (h.0, h.1)
        go (inr h) = h.asks

    pub exact : Showing.DefineOneAnswer → IsExactlyFilled bits f.content p first.written last.written status
    exact one = Showing.exact bits f.content f.before f.after p (with_budget old) new one first.written last.written status filled

    pub refuted : Showing.AreSound → Showing.AreFilledSound → status ≡ 0 → IsShownUnsatisfiable p.options (f.content p.problem) (f.content p.proof)
    refuted sound all = Showing.unsatisfiable bits f.content f.before f.after p (with_budget old) new sound all first.written last.written status filled

  pub read_fault : status ≡ 5 → HasRisen f.before f.after
  read_fault five = go run
    where
      go : IsRunOrNot bits f words old new first last status → HasRisen f.before f.after
      go (inl h) = let seven = h.0 in absurd (omega (arith, seven, five))
      go (inr h) =
          Showing.read_fault bits f.content f.before f.after h.0 (with_budget old) new first.written last.written status h.2.printed five

  pub write_fault : status ≡ 6 → HasRisen first.faults last.faults
  write_fault six = go run
    where
      go : IsRunOrNot bits f words old new first last status → HasRisen first.faults last.faults
      go (inl h) = let seven = h.0 in absurd (omega (arith, seven, six))
      go (inr h) = h.2.write_fault six
