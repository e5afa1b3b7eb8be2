use Rattle.sb_message.proofs.Spellings as lemmas
use Rattle.sb_message.proofs.laws.one_spelling.Goals as goal

pub returns-clause-bytes : goal.returns-clause-bytes
returns-clause-bytes c kind m a b x y = lemmas.one_spelling m a b x.spelled y.spelled

pub returns-clause-message : goal.returns-clause-message
returns-clause-message c kind m n bytes x y = lemmas.one_message m n bytes x.spelled y.spelled
