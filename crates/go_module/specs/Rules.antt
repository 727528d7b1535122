-- Rules that several phases tell.
use Rattle.go_base.specs.declared.rule.Rule.{Rule}
use Rattle.go_base.specs.declared.rule.Family.TheVariants.{U}

-- own: a form of the language that is not checked yet
abbrev pub unbuilt_form : Rule
unbuilt_form = record { family = U; number = 0 }
