-- Lemmas on the status of a report.
use Rattle.std.proofs.Common.{◌≡◌, Bool, true, false, if◌then◌else◌, List, [], ◌∷◌, ◌||◌, map, refl, ap, sym, ◌∙◌}
use Rattle.std.specs.List.{list_all, list_any}
use Rattle.std.proofs.lemmas.List.Folds.{list_all-map}
use Rattle.go_base.specs.declared.status.Status.{Status}
use Rattle.go_base.specs.declared.status.Status.TheVariants.{Accepted, Refused, Beyond}
use Rattle.go_report.specs.declared.report.PackageReport.{PackageReport}
use Rattle.go_report.specs.declared.report.Report.{Report}
use Rattle.go_report.specs.Phases.{is_accepted}
use Rattle.go_report.specs.Report.{PackageReportData, package_view, report_view, verdict_view}
use Rattle.go_report.specs.Status.{broken_in, has_beyond, verdict_of}

pub list_any-map : {X Y : Type 0} (p : X → Bool) (h : Y → X) (ys : List Y) → list_any p (map h ys) ≡ list_any (λ y. p (h y)) ys
list_any-map p h [] = refl
list_any-map p h (y ∷ ys) = ap (λ b. p (h y) || b) (list_any-map p h ys)

abbrev pub some_beyond : List PackageReport → Bool
some_beyond packages = list_any (λ own. has_beyond (broken_in (verdict_view own.verdict))) packages

abbrev pub all_accepted : List PackageReport → Bool
all_accepted packages = list_all (λ own. is_accepted (verdict_view own.verdict)) packages

-- the status, by both tests
abbrev pub status_by : Bool → Bool → Status
status_by some all = if some then Beyond else if all then Accepted else Refused

verdict_by : (r : Report) → verdict_of (report_view r) ≡ status_by (some_beyond r.packages.items) (all_accepted r.packages.items)
verdict_by r =
    ap (λ some. status_by some (list_all (λ (p : PackageReportData). is_accepted p.verdict) (map package_view r.packages.items))) (list_any-map (λ (p : PackageReportData). has_beyond (broken_in p.verdict)) package_view r.packages.items)
    ∙ ap (status_by (some_beyond r.packages.items)) (list_all-map (λ (p : PackageReportData). is_accepted p.verdict) package_view r.packages.items)

pub is_beyond : (r : Report) (ps : List PackageReport) (some : Bool) → ps ≡ r.packages.items → some ≡ some_beyond ps → some ≡ true → Beyond ≡ verdict_of (report_view r)
is_beyond r ps some same is found_some =
    let found : some_beyond r.packages.items ≡ true = ap some_beyond (sym same) ∙ (sym is ∙ found_some) in
    sym (verdict_by r ∙ ap (λ b. status_by b (all_accepted r.packages.items)) found)

pub not_beyond : (r : Report) (ps qs : List PackageReport) (some all answer : Bool) → ps ≡ r.packages.items → some ≡ some_beyond ps → some ≡ false
    → qs ≡ r.packages.items → all ≡ all_accepted qs → all ≡ answer → status_by false answer ≡ verdict_of (report_view r)
not_beyond r ps qs some all answer same is none same_too are here =
    let found : some_beyond r.packages.items ≡ false = ap some_beyond (sym same) ∙ (sym is ∙ none) in
    let all_are : all_accepted r.packages.items ≡ answer = ap all_accepted (sym same_too) ∙ (sym are ∙ here) in
    sym (verdict_by r ∙ (ap (λ b. status_by b (all_accepted r.packages.items)) found ∙ ap (status_by false) all_are))
