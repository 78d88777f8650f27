use Rattle.runtime_config.proofs.Linkage.{names_usable, link_so, no_link}
use Rattle.runtime_config.proofs.linking.link_of.Goals as goal

pub chain_of-requires-clause-usable : goal.chain_of-requires-clause-usable
chain_of-requires-clause-usable c =
    (names_usable c.args.chains.now c.args.state.now c.in-Enabled.service c.in-Enabled.chain c.as_slice.result.now c.in-Enabled.search c.in-Enabled.is c.as_slice.ensures c.requires).0

pub chain_of-requires-clause-short : goal.chain_of-requires-clause-short
chain_of-requires-clause-short c =
    (names_usable c.args.chains.now c.args.state.now c.in-Enabled.service c.in-Enabled.chain c.as_slice.result.now c.in-Enabled.search c.in-Enabled.is c.as_slice.ensures c.requires).1

pub returns-in_ok-link-in-Enabled : goal.returns-in_ok-link-in-Enabled
returns-in_ok-link-in-Enabled c =
    link_so c.args.chains.now c.args.state.now c.in-Enabled.service c.in-Enabled.chain c.as_slice.result.now c.in-Enabled.search c.in_ok-link-in-Enabled.link c.in-Enabled.is c.as_slice.ensures
    c.in_ok-link-in-Enabled.ensures.there c.in_ok-link-in-Enabled.ensures.flattened

pub returns-in-Disabled : goal.returns-in-Disabled
returns-in-Disabled c = no_link c.args.chains.now c.args.state.now c.in-Disabled.field-0 c.in-Disabled.is
