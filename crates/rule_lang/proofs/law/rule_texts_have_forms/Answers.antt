use Rattle.rule_lang.proofs.Forming.{rule_text_form}
use Rattle.rule_lang.proofs.law.rule_texts_have_forms.Goals as goal

pub returns : goal.returns
returns c = rule_text_form
