use Rattle.go_scan.proofs.NextLemmas.{next_within, next_progress}
use Rattle.go_scan.proofs.FaultLemmas.{place_elsewhere, next_at_newline, next_at_place, no_next, no_first_at_comment, comment_blamed, fault_rule}
use Rattle.go_scan.proofs.next_token.next.Goals as goal

pub returns-in-Newline-clause-token : goal.returns-in-Newline-clause-token
returns-in-Newline-clause-token c =
    let here = rw c.in-Newline.is at c.place-place.ensures.here in
    next_at_newline c.inserts_after.result c.args.bytes.now c.args.at c.args.last c.place-place.result.0 c.in-Newline.start c.in-Newline.end c.inserts_after.ensures c.place-place.ensures.gap here.0 here.1 here.2

pub returns-in-Stuck-clause-no_token : goal.returns-in-Stuck-clause-no_token
returns-in-Stuck-clause-no_token c =
    let here = rw c.in-Stuck.is at c.place-place.ensures.here in
    no_next c.args.bytes.now c.args.at c.args.last c.place-place.result.0 (place_elsewhere c.inserts_after.result c.args.bytes.now c.args.at c.args.last c.place-place.result.0 c.inserts_after.ensures c.place-place.ensures.gap here.0) (no_first_at_comment c.args.bytes.now c.args.last c.place-place.result.0 here.1 here.0)

pub returns-in-Stuck-clause-rule : goal.returns-in-Stuck-clause-rule
returns-in-Stuck-clause-rule c =
    let here = rw c.in-Stuck.is at c.place-place.ensures.here in
    let place = place_elsewhere c.inserts_after.result c.args.bytes.now c.args.at c.args.last c.place-place.result.0 c.inserts_after.ensures c.place-place.ensures.gap here.0 in
    fault_rule c.args.bytes.now c.args.at c.args.last c.place-place.result.0 c.in-Stuck.stuck.at c.fault.result.offset place
    (no_next c.args.bytes.now c.args.at c.args.last c.place-place.result.0 place (no_first_at_comment c.args.bytes.now c.args.last c.place-place.result.0 here.1 here.0))
    (comment_blamed c.args.bytes.now c.place-place.result.0 c.in-Stuck.stuck.at here.1 here.2) c.fault.ensures

pub returns-in-Ok-clause-within : goal.returns-in-Ok-clause-within
returns-in-Ok-clause-within c =
    let here = rw c.in-Other.is at c.place-place.ensures.here in
    let place = place_elsewhere c.inserts_after.result c.args.bytes.now c.args.at c.args.last c.place-place.result.0 c.inserts_after.ensures c.place-place.ensures.gap here.0 in
    next_within c.args.bytes.now c.args.at c.args.last c.in-Ok.token c.requires (next_at_place c.args.bytes.now c.args.at c.args.last c.place-place.result.0 c.in-Ok.token place c.in-Ok.ensures.first)

pub returns-in-Ok-clause-progress : goal.returns-in-Ok-clause-progress
returns-in-Ok-clause-progress c =
    let here = rw c.in-Other.is at c.place-place.ensures.here in
    let place = place_elsewhere c.inserts_after.result c.args.bytes.now c.args.at c.args.last c.place-place.result.0 c.inserts_after.ensures c.place-place.ensures.gap here.0 in
    next_progress c.args.bytes.now c.args.at c.args.last c.in-Ok.token c.requires (next_at_place c.args.bytes.now c.args.at c.args.last c.place-place.result.0 c.in-Ok.token place c.in-Ok.ensures.first)

pub returns-in-Err-clause-no_token : goal.returns-in-Err-clause-no_token
returns-in-Err-clause-no_token c =
    let here = rw c.in-Other.is at c.place-place.ensures.here in
    let place = place_elsewhere c.inserts_after.result c.args.bytes.now c.args.at c.args.last c.place-place.result.0 c.inserts_after.ensures c.place-place.ensures.gap here.0 in
    no_next c.args.bytes.now c.args.at c.args.last c.place-place.result.0 place c.in-Err.ensures.none

pub returns-in-Err-clause-rule : goal.returns-in-Err-clause-rule
returns-in-Err-clause-rule c =
    let here = rw c.in-Other.is at c.place-place.ensures.here in
    let place = place_elsewhere c.inserts_after.result c.args.bytes.now c.args.at c.args.last c.place-place.result.0 c.inserts_after.ensures c.place-place.ensures.gap here.0 in
    fault_rule c.args.bytes.now c.args.at c.args.last c.place-place.result.0 c.in-Err.blamed c.fault-in-Err.result.offset place
    (no_next c.args.bytes.now c.args.at c.args.last c.place-place.result.0 place c.in-Err.ensures.none) c.in-Err.ensures.blamed c.fault-in-Err.ensures
