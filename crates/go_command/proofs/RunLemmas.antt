-- Lemmas on the text and the status of a run.
use Rattle.std.proofs.Common.{ℕ, List, Option, sym, subst}
use Rattle.go_base.specs.declared.status.Status.{Status}
use Rattle.go_base.specs.declared.tree.MemFile.{MemFile}
use Rattle.go_module.specs.declared.places.Placed.{Placed}
use Rattle.go_load.specs.Loading.{LoadsBroken, LoadsModule}
use Rattle.go_module.specs.Modules.Module.{ModuleData}
use Rattle.go_report.specs.Status.{refusal_of, verdict_of}
use Rattle.go_command.specs.Headline.{RunOf, first, whole, IsRunText}
use Rattle.go_command.specs.Runs.{IsFirst, IsWhole}
use Rattle.go_command.specs.Words.{Roots}

-- a run that ends before packages are checked, and one that checks them
pub first_run : (told : Option (List MemFile)) (roots : Roots) (list : List Placed) (text : List ℕ) (status : Status) → LoadsBroken told roots.root roots.stubs list → IsFirst list text status → IsRunText told roots text status
first_run told roots list text status loads is = record {
  is_run = subst (λ (s : Status). RunOf told roots text s) (sym is.status_is) (subst (λ (t : List ℕ). RunOf told roots t (refusal_of list)) (sym is.text_is) (first list loads));
  is_verdict = is.is_verdict;
}

pub whole_run : (told : Option (List MemFile)) (roots : Roots) (m : ModuleData) (text : List ℕ) (status : Status) → LoadsModule told roots.root roots.stubs m → IsWhole m text status → IsRunText told roots text status
whole_run told roots m text status loads is = record {
  is_run = subst (λ (s : Status). RunOf told roots text s) (sym is.status_is) (subst (λ (t : List ℕ). RunOf told roots t (verdict_of is.report)) (sym is.text_is) (whole m is.report loads is.is_report));
  is_verdict = is.is_verdict;
}
