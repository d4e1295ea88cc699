use Rattle.rules_resolution.specs.SignedTerms.{StandsForSigned}
use Rattle.rules_resolution.proofs.Carrying.{joined_over}
use Rattle.rules_resolution.proofs.SignedTerms.{signed_apart}
use Rattle.rules_resolution.proofs.laws.joined_terms_are_joined.Goals as goal

pub returns : goal.returns
returns c = record {
  apart = signed_apart;
  joined = λ s v one. joined_over (StandsForSigned s v) (signed_apart s v one);
}
