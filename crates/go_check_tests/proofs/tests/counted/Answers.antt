use Rattle.go_judge.specs.HeadersView.{headers_view}
use Rattle.go_decl.proofs.HonestHeaders.{honest_none}
use Rattle.go_check_tests.proofs.tests.counted.Goals as goal

-- a new rulebook knows no header
pub elaborate-requires-clause-honest : goal.elaborate-requires-clause-honest
elaborate-requires-clause-honest g c = honest_none (headers_view c.new-book.result.judge.headers) c.new-book.ensures.headers
