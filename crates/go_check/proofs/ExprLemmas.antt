-- The record of a node, as it is read off what walks left.
use Rattle.std.proofs.Common.{◌≡◌, Option, Some, None, refl}
use Rattle.std.specs.Prelude.{option_and_then, unwrap_or}
use Rattle.go_judge.specs.Judged.{Nothing, OutcomeData}
use Rattle.go_model.specs.Outcomes.Readings.{record_in}
use Rattle.go_judge.specs.Records.{RecData}

-- the record of an outcome that may be there
pub read_record : (o : Option (OutcomeData RecData)) → option_and_then record_in o ≡ record_in (unwrap_or o Nothing)
read_record None = refl
read_record (Some outcome) = refl
