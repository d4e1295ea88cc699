use Rattle.printed_proofs.proofs.SharedStates.{term_follow}
use Rattle.printed_proofs.proofs.SharedTerms.{shared_read, shared_spelled}
use Rattle.printed_proofs.proofs.laws.shared_terms_are_read_back.Goals as goal

pub returns-clause-read : goal.returns-clause-read
returns-clause-read c = λ plan t sort p s at free kept apart sound ready of k names.
    shared_read at plan t sort p s (record { free = free; kept = kept; apart = apart }) sound ready of k names

pub returns-clause-spelled : goal.returns-clause-spelled
returns-clause-spelled c = λ plan t p s sound k. shared_spelled plan t s p s sound k

pub returns-clause-ready : goal.returns-clause-ready
returns-clause-ready c = λ plan t s sound ready. (term_follow plan t s sound).ready ready

pub returns-clause-printable : goal.returns-clause-printable
returns-clause-printable c = λ plan t u p s sound apart k. (term_follow plan t s sound).printable p u apart k
