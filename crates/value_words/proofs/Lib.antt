mod ValueCalls
