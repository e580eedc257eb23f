use Rattle.round_survey.proofs.looking.atoms_to_look_at.Goals as goal

pub returns : goal.returns
returns c = c.look_at_changed.ensures c.args.map.now c.requires.classes c.in_ok-looked.ensures
