-- What the contracts say beside the definitions. Assumes nothing.
pub mod Room
