use Rattle.go_form.proofs.WholeLemmas.{one_list_of_forms}
use Rattle.go_form.proofs.laws.one_list_of_forms.Goals as goal

pub returns : goal.returns
returns c = one_list_of_forms
